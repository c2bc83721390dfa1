-- Rows after writes.
use Rattle.std.proofs.Common.{◌≡◌, ℕ, ◌+◌, List, [], ◌∷◌, ◌++◌, Bool, true, false, Option, Some, None, refl, sym, ◌∙◌, subst, if◌then◌else◌, arith}
use Rattle.std.proofs.lemmas.Bool.Decides.{nat_tests}
use mathlib.Core.Logic.◌⊎◌.{inl, inr}
use Rattle.base_model.specs.Keyed.{Text, Keyed, same, text_lt, at, put, without}
use Rattle.race_model.specs.Stores.{Cell, Rows, Table, Write, Item, write, write_all, written, dropped, expected, new_over, put_over, delete_over, numbered}
use Rattle.race_model.specs.Stores.Write.{Put, Delete}
use Rattle.race_model.specs.Stores.Item.{Written, Conflict}
use Rattle.race_model.specs.Machines.{creates}
use Rattle.race_model.specs.Journals.{Has}
use Rattle.race_model.specs.Sorted.{AllAbove, IsSorted, Each}
use Rattle.race_tables.proofs.Keys.{same_is, at_put_same, at_put_other, same_true}

-- each row is one of these pairs
abbrev pub Only : {D : Type 0} → List (Text × D) → Rows D → Type 0
Only os rows = Each (λ raw doc. Has (raw, doc) os) rows

pub each_put : {D : Type 0} (P : Text → D → Type 0) (raw : Text) (c : Cell D) (rows : Rows D) → P raw c.doc → Each P rows → Each P (put raw c rows)
unfolding Each put
each_put P raw c [] h a = (h, tt)
each_put P raw c (r ∷ rows) h a = by (same raw r.0) (text_lt raw r.0) (each_put P raw c rows h a.1)
  where
    by : (s t : Bool) → Each P (put raw c rows) → Each P (if s then (raw, c) ∷ rows else if t then (raw, c) ∷ r ∷ rows else r ∷ put raw c rows)
    by true t k = (h, a.1)
    by false true k = (h, a)
    by false false k = (a.0, k)

pub each_without : {D : Type 0} (P : Text → D → Type 0) (raw : Text) (rows : Rows D) → Each P rows → Each P (without raw rows)
unfolding Each without
each_without P raw [] a = tt
each_without P raw (r ∷ rows) a = by (same raw r.0) (each_without P raw rows a.1)
  where
    by : (s : Bool) → Each P (without raw rows) → Each P (if s then without raw rows else r ∷ without raw rows)
    by true k = k
    by false k = (a.0, k)

pub each_numbered : {D : Type 0} (P : Text → D → Type 0) (n : ℕ) (rows : Rows D) → Each P rows → Each P (numbered n rows)
unfolding Each numbered
each_numbered P n [] a = tt
each_numbered P n (r ∷ rows) a = (a.0, each_numbered P (n + 1) rows a.1)

pub each_at : {D : Type 0} (P : Text → D → Type 0) (raw : Text) (c : Cell D) (rows : Rows D) → Each P rows → at raw rows ≡ Some c → P raw c.doc
unfolding Each at
each_at P raw c [] a e = absurd (cc)
each_at P raw c (r ∷ rows) a e = by (same raw r.0) refl e (each_at P raw c rows a.1)
  where
    by : (s : Bool) → same raw r.0 ≡ s → (if s then Some r.1 else at raw rows) ≡ Some c → (at raw rows ≡ Some c → P raw c.doc) → P raw c.doc
    by true q f rest = let same_cell : r.1 ≡ c = cc in subst (λ d. P raw d.doc) same_cell (subst (λ k. P k r.1.doc) (sym (same_true raw r.0 q)) a.0)
    by false q f rest = rest f

pub each_append : {D : Type 0} (P : Text → D → Type 0) (xs ys : Rows D) → Each P xs → Each P ys → Each P (xs ++ ys)
unfolding Each
each_append P [] ys a b = b
each_append P (x ∷ xs) ys a b = (a.0, each_append P xs ys a.1 b)

pub each_more : {D : Type 0} (P R : Text → D → Type 0) (rows : Rows D) → ((raw : Text) (doc : D) → P raw doc → R raw doc) → Each P rows → Each R rows
unfolding Each
each_more P R [] f a = tt
each_more P R (r ∷ rows) f a = (f r.0 r.1.doc a.0, each_more P R rows f a.1)

-- a row of this raw id is there
abbrev pub IsIn : {D : Type 0} → Text → Rows D → Type 0
IsIn raw rows = (c : Cell _) × (at raw rows ≡ Some c)

-- each of these pairs has a row of its raw id
unfoldable pub Holds : {D : Type 0} → List (Text × D) → Rows D → Type 0
Holds [] rows = Unit {0}
Holds (o ∷ os) rows = IsIn o.0 rows × Holds os rows

unfoldable pub AllHas : {A : Type 0} → List A → List A → Type 0
AllHas [] ys = Unit {0}
AllHas (x ∷ xs) ys = Has x ys × AllHas xs ys

pub holds_more : {D : Type 0} (os : List (Text × D)) (xs ys : Rows D) → ((raw : Text) → IsIn raw xs → IsIn raw ys) → Holds os xs → Holds os ys
unfolding Holds
holds_more [] xs ys f h = tt
holds_more (o ∷ os) xs ys f h = (f o.0 h.0, holds_more os xs ys f h.1)

pub holds_append : {D : Type 0} (os ps : List (Text × D)) (rows : Rows D) → Holds os rows → Holds ps rows → Holds (os ++ ps) rows
unfolding Holds
holds_append [] ps rows h k = k
holds_append (o ∷ os) ps rows h k = (h.0, holds_append os ps rows h.1 k)

-- a create writes a pair of its own, keeps what is there, and leaves a row of its raw id
pub only_write : {D : Type 0} (os : List (Text × D)) (t : Table D) (raw : Text) (doc : D) → Only os t.rows → Has (raw, doc) os → Only os (write t (Write.Create raw doc)).0.rows
unfolding write
only_write {D = D} os t raw doc o h = by (at raw t.rows)
  where
    by : (c : Option (Cell D)) → Only os (new_over c t raw doc).0.rows
    by None = each_put (λ r d. Has (r, d) os) raw (record { seq = t.next; doc = doc }) t.rows h o
    by (Some x) = o

pub is_in_write : {D : Type 0} (t : Table D) (raw : Text) (doc : D) (q : Text) → IsIn q t.rows → IsIn q (write t (Write.Create raw doc)).0.rows
unfolding write
is_in_write {D = D} t raw doc q h = by (at raw t.rows) refl
  where
    by : (c : Option (Cell D)) → at raw t.rows ≡ c → IsIn q (new_over c t raw doc).0.rows
    by None e = elim (same_is q raw) [
      | inl p ↦ (record { seq = t.next; doc = doc }, subst (λ k. at k (put raw (record { seq = t.next; doc = doc }) t.rows) ≡ Some (record { seq = t.next; doc = doc })) (sym p.1) (at_put_same raw (record { seq = t.next; doc = doc }) t.rows))
      | inr p ↦ (h.0, at_put_other q raw (record { seq = t.next; doc = doc }) t.rows p.1 ∙ h.1)
    ]
    by (Some x) e = h

pub is_in_written : {D : Type 0} (t : Table D) (raw : Text) (doc : D) → IsIn raw (write t (Write.Create raw doc)).0.rows
unfolding write
is_in_written {D = D} t raw doc = by (at raw t.rows) refl
  where
    by : (c : Option (Cell D)) → at raw t.rows ≡ c → IsIn raw (new_over c t raw doc).0.rows
    by None e = (record { seq = t.next; doc = doc }, at_put_same raw (record { seq = t.next; doc = doc }) t.rows)
    by (Some x) e = (x, e)

pub only_write_all : {D : Type 0} (os : List (Text × D)) (ps : List (Text × D)) (t : Table D) → Only os t.rows → AllHas ps os → Only os (write_all t (creates ps)).rows
unfolding AllHas write_all
only_write_all os [] t o h = o
only_write_all os (p ∷ ps) t o h = only_write_all os ps (write t (Write.Create p.0 p.1)).0 (only_write os t p.0 p.1 o h.0) h.1

pub is_in_write_all : {D : Type 0} (ps : List (Text × D)) (t : Table D) (q : Text) → IsIn q t.rows → IsIn q (write_all t (creates ps)).rows
unfolding write_all
is_in_write_all [] t q h = h
is_in_write_all (p ∷ ps) t q h = is_in_write_all ps (write t (Write.Create p.0 p.1)).0 q (is_in_write t p.0 p.1 q h)

pub holds_write_all : {D : Type 0} (ps : List (Text × D)) (t : Table D) → Holds ps (write_all t (creates ps)).rows
unfolding Holds write_all
holds_write_all [] t = tt
holds_write_all (p ∷ ps) t = (is_in_write_all ps (write t (Write.Create p.0 p.1)).0 p.0 (is_in_written t p.0 p.1), holds_write_all ps (write t (Write.Create p.0 p.1)).0)

-- order
pub lt_cases : (a b : Text) → text_lt a b ≡ false → same a b ≡ false → text_lt b a ≡ true
unfolding text_lt same
lt_cases [] [] e f = absurd (cc)
lt_cases [] (b ∷ y) e f = absurd (cc)
lt_cases (a ∷ x) [] e f = refl
lt_cases (a ∷ x) (b ∷ y) e f = grind (arith, nat_tests, lt_cases x y)

pub lt_trans : (a b c : Text) → text_lt a b ≡ true → text_lt b c ≡ true → text_lt a c ≡ true
unfolding text_lt
lt_trans [] [] c e f = absurd (cc)
lt_trans [] (b ∷ y) [] e f = absurd (cc)
lt_trans [] (b ∷ y) (c ∷ z) e f = refl
lt_trans (a ∷ x) [] c e f = absurd (cc)
lt_trans (a ∷ x) (b ∷ y) [] e f = absurd (cc)
lt_trans (a ∷ x) (b ∷ y) (c ∷ z) e f = grind (arith, nat_tests, lt_trans x y z)

pub lt_irrefl : (a : Text) → text_lt a a ≡ false
unfolding text_lt
lt_irrefl [] = refl
lt_irrefl (a ∷ x) = grind (arith, nat_tests, lt_irrefl x)

all_above_lower : {V : Type 0} (k j : Text) (es : Keyed V) → text_lt k j ≡ true → AllAbove j es → AllAbove k es
unfolding AllAbove
all_above_lower k j [] e a = tt
all_above_lower k j (x ∷ es) e a = (lt_trans k j x.0 e a.0, all_above_lower k j es e a.1)

all_above_put : {V : Type 0} (j k : Text) (v : V) (es : Keyed V) → text_lt j k ≡ true → AllAbove j es → AllAbove j (put k v es)
unfolding AllAbove put
all_above_put j k v [] e a = (e, tt)
all_above_put j k v (x ∷ es) e a = by (same k x.0) (text_lt k x.0) (all_above_put j k v es e a.1)
  where
    by : (s t : Bool) → AllAbove j (put k v es) → AllAbove j (if s then (k, v) ∷ es else if t then (k, v) ∷ x ∷ es else x ∷ put k v es)
    by true t h = (e, a.1)
    by false true h = (e, a)
    by false false h = (a.0, h)

pub sorted_put : {V : Type 0} (k : Text) (v : V) (es : Keyed V) → IsSorted es → IsSorted (put k v es)
unfolding IsSorted AllAbove put
sorted_put k v [] a = (tt, tt)
sorted_put k v (x ∷ es) a = by (same k x.0) refl (text_lt k x.0) refl (sorted_put k v es a.1)
  where
    by : (s : Bool) → same k x.0 ≡ s → (t : Bool) → text_lt k x.0 ≡ t → IsSorted (put k v es) → IsSorted (if s then (k, v) ∷ es else if t then (k, v) ∷ x ∷ es else x ∷ put k v es)
    by true p t q h = (subst (λ j. AllAbove j es) (sym (same_true k x.0 p)) a.0, a.1)
    by false p true q h = ((q, all_above_lower k x.0 es q a.0), a)
    by false p false q h = (all_above_put x.0 k v es (lt_cases k x.0 q p) a.0, h)

sorted_write : {D : Type 0} (t : Table D) (raw : Text) (doc : D) → IsSorted t.rows → IsSorted (write t (Write.Create raw doc)).0.rows
unfolding write
sorted_write {D = D} t raw doc s = by (at raw t.rows)
  where
    by : (c : Option (Cell D)) → IsSorted (new_over c t raw doc).0.rows
    by None = sorted_put raw (record { seq = t.next; doc = doc }) t.rows s
    by (Some x) = s

pub sorted_write_all : {D : Type 0} (ps : List (Text × D)) (t : Table D) → IsSorted t.rows → IsSorted (write_all t (creates ps)).rows
unfolding write_all
sorted_write_all [] t a = a
sorted_write_all (p ∷ ps) t a = sorted_write_all ps (write t (Write.Create p.0 p.1)).0 (sorted_write t p.0 p.1 a)

all_above_without : {V : Type 0} (j k : Text) (es : Keyed V) → AllAbove j es → AllAbove j (without k es)
unfolding AllAbove without
all_above_without j k [] a = tt
all_above_without j k (x ∷ es) a = by (same k x.0) (all_above_without j k es a.1)
  where
    by : (s : Bool) → AllAbove j (without k es) → AllAbove j (if s then without k es else x ∷ without k es)
    by true h = h
    by false h = (a.0, h)

pub sorted_without : {V : Type 0} (k : Text) (es : Keyed V) → IsSorted es → IsSorted (without k es)
unfolding IsSorted without
sorted_without k [] a = tt
sorted_without k (x ∷ es) a = by (same k x.0) (sorted_without k es a.1)
  where
    by : (s : Bool) → IsSorted (without k es) → IsSorted (if s then without k es else x ∷ without k es)
    by true h = h
    by false h = (all_above_without x.0 k es a.0, h)

-- any writes
sorted_any : {D : Type 0} (t : Table D) (w : Write D) → IsSorted t.rows → IsSorted (write t w).0.rows
unfolding write
sorted_any t (Write.Create raw doc) a = sorted_write t raw doc a
sorted_any {D = D} t (Put raw doc expect) a = by (at raw t.rows) expect
  where
    by : (c : Option (Cell D)) (n : Option ℕ) → IsSorted (put_over c t raw doc n).0.rows
    by None None = sorted_put raw (record { seq = t.next; doc = doc }) t.rows a
    by None (Some n) = a
    by (Some c) n = if_so (expected n c.seq)
      where
        if_so : (b : Bool) → IsSorted (if◌then◌else◌ {A = Table D × Item} b (written t raw doc, Written t.next) (t, Conflict (Some c.seq))).0.rows
        if_so true = sorted_put raw (record { seq = t.next; doc = doc }) t.rows a
        if_so false = a
sorted_any {D = D} t (Delete raw expect) a = by (at raw t.rows)
  where
    by : (c : Option (Cell D)) → IsSorted (delete_over c t raw expect).0.rows
    by None = a
    by (Some c) = if_so (expected expect c.seq)
      where
        if_so : (b : Bool) → IsSorted (if◌then◌else◌ {A = Table D × Item} b (dropped t raw, Written t.next) (t, Conflict (Some c.seq))).0.rows
        if_so true = sorted_without raw t.rows a
        if_so false = a

pub sorted_writes : {D : Type 0} (t : Table D) (ws : List (Write D)) → IsSorted t.rows → IsSorted (write_all t ws).rows
unfolding write_all
sorted_writes t [] a = a
sorted_writes t (w ∷ ws) a = sorted_writes (write t w).0 ws (sorted_any t w a)
