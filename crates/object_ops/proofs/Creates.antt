-- The acts of a bulkCreate.
use Rattle.std.proofs.Common.{◌≡◌, Bool, Option, List, [], ◌∷◌, map, refl, ap}
use Rattle.base_model.specs.Keyed.{Text}
use Rattle.so_js.specs.declared.js.Js.{Js}
use Rattle.call_model.specs.Calls as calls
use Rattle.call_model.specs.Calls.Act.{Create}
use Rattle.call_model.specs.Steps.{creates}
use Rattle.call_words.specs.Mapped.{new_object_of}
use Rattle.call_words.specs.declared.calls.NewObject.{NewObject}
use Rattle.object_acts.specs.Mapped.{act_of}
use Rattle.object_acts.specs.declared.acts.Act.TheVariants as act

pub made_creates : (overwrite : Bool) (time : Option Text) (objects : List NewObject) → map act_of (map (λ object. act.Create object overwrite time) objects) ≡ creates overwrite time (map new_object_of objects)
made_creates overwrite time [] = refl
made_creates overwrite time (o ∷ objects) = ap (λ (acts : List (calls.Act Js)). Create (new_object_of o) overwrite time ∷ acts) (made_creates overwrite time objects)
