-- A table and its items after one more write.
use Rattle.std.proofs.Common.{◌≡◌, ℕ, ◌+◌, ◌≤◌, List, [], ◌∷◌, ◌++◌, map, Bool, true, false, Option, Some, None, refl, ap, if◌then◌else◌, arith}
use Rattle.base_model.specs.Keyed.{at}
use Rattle.race_model.specs.Stores.{Cell, Table, Write, Item, write, write_all, items_of, written, dropped, expected, new_over, put_over, delete_over}
use Rattle.race_model.specs.Stores.Write.{Put, Delete}
use Rattle.race_model.specs.Stores.Item.{Written, Conflict}
use Rattle.doc_table.specs.declared.writes.Item.{Item as Result}
use Rattle.doc_table.specs.Tables.{item_of}

-- a write raises the next number by one at most
next_write : {D : Type 0} (t : Table D) (w : Write D) → (write t w).0.next ≤ t.next + 1
unfolding write
next_write {D = D} t (Write.Create raw doc) = by (at raw t.rows)
  where
    by : (c : Option (Cell D)) → (new_over c t raw doc).0.next ≤ t.next + 1
    by None = omega arith
    by (Some c) = omega arith
next_write {D = D} t (Put raw doc expect) = by (at raw t.rows) expect
  where
    by : (c : Option (Cell D)) (n : Option ℕ) → (put_over c t raw doc n).0.next ≤ t.next + 1
    by None None = omega arith
    by None (Some n) = omega arith
    by (Some c) n = if_so (expected n c.seq)
      where
        if_so : (b : Bool) → (if◌then◌else◌ {A = Table D × Item} b (written t raw doc, Written t.next) (t, Conflict (Some c.seq))).0.next ≤ t.next + 1
        if_so true = omega arith
        if_so false = omega arith
next_write {D = D} t (Delete raw expect) = by (at raw t.rows)
  where
    by : (c : Option (Cell D)) → (delete_over c t raw expect).0.next ≤ t.next + 1
    by None = omega arith
    by (Some c) = if_so (expected expect c.seq)
      where
        if_so : (b : Bool) → (if◌then◌else◌ {A = Table D × Item} b (dropped t raw, Written t.next) (t, Conflict (Some c.seq))).0.next ≤ t.next + 1
        if_so true = omega arith
        if_so false = omega arith

-- ---- after one of several

pub write_step : {D : Type 0} (t new : Table D) (w : Write D) (i : Item) (ws : List (Write D)) → (new, i) ≡ write t w → write_all new ws ≡ write_all t (w ∷ ws)
unfolding write_all
write_step {D = D} t new w i ws e = ap (λ (p : Table D × Item). write_all p.0 ws) e

pub items_step : {D : Type 0} (t new : Table D) (w : Write D) (i : Item) (ws : List (Write D)) → (new, i) ≡ write t w → i ∷ items_of new ws ≡ items_of t (w ∷ ws)
unfolding items_of
items_step {D = D} t new w i ws e = ap (λ (p : Table D × Item). p.1 ∷ items_of p.0 ws) e

pub next_step : {D : Type 0} (t new : Table D) (w : Write D) (i : Item) → (new, i) ≡ write t w → new.next ≤ t.next + 1
next_step {D = D} t new w i e =
    let n : new.next ≡ (write t w).0.next = ap (λ (p : Table D × Item). p.0.next) e in
    omega (arith, next_write t w)

pub item_pushed : (items : List Result) (item : Result) (rest : List Item) → map item_of (items ++ item ∷ []) ++ rest ≡ map item_of items ++ item_of item ∷ rest
item_pushed [] item rest = refl
item_pushed (x ∷ items) item rest = ap (λ (l : List Item). item_of x ∷ l) (item_pushed items item rest)
