-- The calls of an input that have few objects.
use Rattle.std.proofs.Common.{List, [], ◌∷◌, ◌++◌}
use Rattle.doc_table.specs.RowLists.{Each}

-- one more at the end
pub each_further : {X : Type 0} (P : X → Type 0) (xs : List X) (x : X) → Each P xs → P x → Each P (xs ++ x ∷ [])
each_further P [] x all holds = (holds, tt)
each_further P (y ∷ xs) x all holds = (all.0, each_further P xs x all.1 holds)
