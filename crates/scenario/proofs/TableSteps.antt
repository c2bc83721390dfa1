-- The next number and the rows of a table.
use Rattle.std.proofs.Common.{◌≤◌, ◌+◌, Bool, true, false, [], ◌∷◌, length, Option, Some, None, if◌then◌else◌, arith}
use Rattle.base_model.specs.Keyed.{Text, Keyed, same, text_lt, at, put}
use Rattle.race_model.specs.Stores.{Cell, Table, write, new_over}
use Rattle.race_model.specs.Stores.Write.{Create}

-- a create raises the next number by one at most
pub next_after_create : {D : Type 0} (t : Table D) (raw : Text) (doc : D) → (write t (Create raw doc)).0.next ≤ t.next + 1
unfolding write
next_after_create t raw doc = over (at raw t.rows)
  where
    over : (found : Option (Cell _)) → (new_over found t raw doc).0.next ≤ t.next + 1
    over None = omega arith
    over (Some c) = omega arith

length-put : {V : Type 0} (k : Text) (v : V) (es : Keyed V) → length (put k v es) ≤ length es + 1
unfolding put
length-put k v [] = omega arith
length-put k v (e ∷ es) = over (same k e.0) (text_lt k e.0) (length-put k v es)
  where
    over : (equal less : Bool) → length (put k v es) ≤ length es + 1 → length (if equal then (k, v) ∷ es else if less then (k, v) ∷ e ∷ es else e ∷ put k v es) ≤ length (e ∷ es) + 1
    over true less more = omega arith
    over false true more = omega arith
    over false false more = omega (arith, more)

-- a create adds one row at most
pub rows_after_create : {D : Type 0} (t : Table D) (raw : Text) (doc : D) → length (write t (Create raw doc)).0.rows ≤ length t.rows + 1
unfolding write
rows_after_create t raw doc = over (at raw t.rows)
  where
    over : (found : Option (Cell _)) → length (new_over found t raw doc).0.rows ≤ length t.rows + 1
    over None = length-put raw (record { seq = t.next; doc = doc }) t.rows
    over (Some c) = omega arith
