-- How far the numbers of tables come by a request.
use Rattle.std.proofs.Common.{◌≡◌, ℕ, suc, ◌+◌, ◌≤◌, Bool, true, false, List, [], ◌∷◌, length, Option, Some, None, refl, ap, subst, if◌then◌else◌, arith}
use Rattle.base_model.specs.Keyed.{Text, Keyed, same, text_lt, at, put, without}
use Rattle.race_model.specs.Stores.{Cell, Rows, Table, Index, Write, Item, write, write_all, written, dropped, expected, new_over, put_over, delete_over, numbered, renumbered, empty_table}
use Rattle.race_model.specs.Stores.Write.{Put, Delete}
use Rattle.race_model.specs.Stores.Item.{Written, Conflict}
use Rattle.store_core.specs.Standing.{IsWithin, AllWithin}

few_put : {V : Type 0} (k : Text) (v : V) (es : Keyed V) → length (put k v es) ≤ length es + 1
unfolding put
few_put k v [] = omega arith
few_put k v (e ∷ es) = by (same k e.0) (text_lt k e.0) (few_put k v es)
  where
    by : (s t : Bool) → length (put k v es) ≤ length es + 1 → length (if s then (k, v) ∷ es else if t then (k, v) ∷ e ∷ es else e ∷ put k v es) ≤ length (e ∷ es) + 1
    by true t h = omega arith
    by false true h = omega arith
    by false false h = omega arith

few_without : {V : Type 0} (k : Text) (es : Keyed V) → length (without k es) ≤ length es
unfolding without
few_without k [] = omega arith
few_without k (e ∷ es) = by (same k e.0) (few_without k es)
  where
    by : (s : Bool) → length (without k es) ≤ length es → length (if s then without k es else e ∷ without k es) ≤ length (e ∷ es)
    by true h = omega arith
    by false h = omega arith

few_numbered : {D : Type 0} (n : ℕ) (rows : Rows D) → length (numbered n rows) ≡ length rows
unfolding numbered
few_numbered n [] = refl
few_numbered n (r ∷ rows) = ap suc (few_numbered (n + 1) rows)

pub within_more : {D : Type 0} (m n : ℕ) (t : Table D) → m ≤ n → IsWithin m t → IsWithin n t
within_more m n t l h = let p = h.next in record { rows = h.rows; next = omega arith }

within_written : {D : Type 0} (n : ℕ) (t : Table D) (raw : Text) (doc : D) → IsWithin n t → IsWithin (n + 1) (written t raw doc)
within_written n t raw doc h =
    let r = h.rows in
    let p = h.next in
    let f = few_put raw (record { seq = t.next; doc = doc }) t.rows in
    record { rows = omega arith; next = omega arith }

within_dropped : {D : Type 0} (n : ℕ) (t : Table D) (raw : Text) → IsWithin n t → IsWithin (n + 1) (dropped t raw)
within_dropped n t raw h =
    let r = h.rows in
    let p = h.next in
    let f = few_without raw t.rows in
    record { rows = omega arith; next = omega arith }

within_same : {D : Type 0} (n : ℕ) (t : Table D) → IsWithin n t → IsWithin (n + 1) t
within_same n t h = within_more n (n + 1) t (omega arith) h

within_write : {D : Type 0} (n : ℕ) (t : Table D) (w : Write D) → IsWithin n t → IsWithin (n + 1) (write t w).0
unfolding write
within_write {D = D} n t (Write.Create raw doc) h = by (at raw t.rows)
  where
    by : (c : Option (Cell D)) → IsWithin (n + 1) (new_over c t raw doc).0
    by None = within_written n t raw doc h
    by (Some c) = within_same n t h
within_write {D = D} n t (Put raw doc expect) h = by (at raw t.rows) expect
  where
    by : (c : Option (Cell D)) (e : Option ℕ) → IsWithin (n + 1) (put_over c t raw doc e).0
    by None None = within_written n t raw doc h
    by None (Some s) = within_same n t h
    by (Some c) e = if_so (expected e c.seq)
      where
        if_so : (b : Bool) → IsWithin (n + 1) (if◌then◌else◌ {A = Table D × Item} b (written t raw doc, Written t.next) (t, Conflict (Some c.seq))).0
        if_so true = within_written n t raw doc h
        if_so false = within_same n t h
within_write {D = D} n t (Delete raw expect) h = by (at raw t.rows)
  where
    by : (c : Option (Cell D)) → IsWithin (n + 1) (delete_over c t raw expect).0
    by None = within_same n t h
    by (Some c) = if_so (expected expect c.seq)
      where
        if_so : (b : Bool) → IsWithin (n + 1) (if◌then◌else◌ {A = Table D × Item} b (dropped t raw, Written t.next) (t, Conflict (Some c.seq))).0
        if_so true = within_dropped n t raw h
        if_so false = within_same n t h

pub within_writes : {D : Type 0} (n : ℕ) (t : Table D) (ws : List (Write D)) → IsWithin n t → IsWithin (n + length ws) (write_all t ws)
unfolding write_all
within_writes n t [] h = within_more n _ t (omega arith) h
within_writes n t (w ∷ ws) h = within_more (n + 1 + length ws) _ _ (omega arith) (within_writes (n + 1) (write t w).0 ws (within_write n t w h))

pub within_renumbered : {D : Type 0} (n : ℕ) (t : Table D) → IsWithin n t → IsWithin n (renumbered t)
within_renumbered n t h =
    let r = h.rows in
    let p = h.next in
    let f = few_numbered 0 t.rows in
    record { rows = omega arith; next = omega arith }

pub within_empty : {D : Type 0} (n : ℕ) → IsWithin n (empty_table {D = D})
within_empty n = record { rows = omega arith; next = omega arith }

-- ---- the tables of all indices

pub all_more : {D : Type 0} (m n : ℕ) (ixs : Keyed (Index D)) → m ≤ n → AllWithin m ixs → AllWithin n ixs
unfolding AllWithin
all_more m n [] l h = tt
all_more m n (e ∷ ixs) l h = (within_more m n e.1.table l h.0, all_more m n ixs l h.1)

pub all_put : {D : Type 0} (n : ℕ) (name : Text) (ix : Index D) (ixs : Keyed (Index D)) → IsWithin n ix.table → AllWithin n ixs → AllWithin n (put name ix ixs)
unfolding AllWithin put
all_put n name ix [] h a = (h, tt)
all_put n name ix (e ∷ ixs) h a = by (same name e.0) (text_lt name e.0) (all_put n name ix ixs h a.1)
  where
    by : (s t : Bool) → AllWithin n (put name ix ixs) → AllWithin n (if s then (name, ix) ∷ ixs else if t then (name, ix) ∷ e ∷ ixs else e ∷ put name ix ixs)
    by true t k = (h, a.1)
    by false true k = (h, a)
    by false false k = (a.0, k)

pub all_without : {D : Type 0} (n : ℕ) (name : Text) (ixs : Keyed (Index D)) → AllWithin n ixs → AllWithin n (without name ixs)
unfolding AllWithin without
all_without n name [] a = tt
all_without n name (e ∷ ixs) a = by (same name e.0) (all_without n name ixs a.1)
  where
    by : (s : Bool) → AllWithin n (without name ixs) → AllWithin n (if s then without name ixs else e ∷ without name ixs)
    by true k = k
    by false k = (a.0, k)

pub all_at : {D : Type 0} (n : ℕ) (name : Text) (ix : Index D) (ixs : Keyed (Index D)) → at name ixs ≡ Some ix → AllWithin n ixs → IsWithin n ix.table
unfolding AllWithin at
all_at n name ix [] e a = absurd (cc)
all_at {D = D} n name ix (x ∷ ixs) e a = by (same name x.0) e (λ f. all_at n name ix ixs f a.1)
  where
    by : (s : Bool) → (if s then Some x.1 else at name ixs) ≡ Some ix → (at name ixs ≡ Some ix → IsWithin n ix.table) → IsWithin n ix.table
    by true f k = let q : x.1 ≡ ix = cc in subst (λ (i : Index D). IsWithin n i.table) q a.0
    by false f k = k f
