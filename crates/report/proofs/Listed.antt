-- Members of an object one after another.
use Rattle.std.proofs.Common.{◌≡◌, ◌∷◌, List, Result, IfOk, subst}
use Rattle.so_js.specs.declared.js.Js.{Js}
use Rattle.report.specs.declared.fields.Field.{Field}
use Rattle.report.specs.Members.{object_of}

-- one member, and those behind it
pub next : (f g : Field) (fs gs : List Field) → f ≡ g → fs ≡ gs → f ∷ fs ≡ g ∷ gs
next f g fs gs here later = cc

pub object_with : {E : Type 0} (result : Result Js E) (fields same : List Field) → fields ≡ same → IfOk result (λ tree. tree ≡ object_of fields) → IfOk result (λ tree. tree ≡ object_of same)
object_with result fields same is given = subst (λ (all : List Field). IfOk result (λ tree. tree ≡ object_of all)) is given
