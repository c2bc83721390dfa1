-- A create that its own words don't refuse.
use Rattle.std.proofs.Common.{◌≡◌, ◌∷◌, [], Option, None, Bool, true, false, refl}
use Rattle.base_model.specs.Keyed.{Text}
use Rattle.document_model.specs.Registries.{Registry, known}
use Rattle.call_model.specs.Words.{Words}
use Rattle.call_model.specs.Calls.{NewObject}
use Rattle.call_model.specs.Calls.Act.{Create}
use Rattle.call_model.specs.Acts.{first_of, is_unknown, stamp_too_new, own_words}
use Rattle.call_model.specs.declared.refuse.Refuse.{Refuse}

none_of : (a b c : Bool) (r s t : Refuse) → first_of ((a, r) ∷ (b, s) ∷ (c, t) ∷ []) ≡ None → (a ≡ false) × (c ≡ false)
none_of true b c r s t h = cc h
none_of false true c r s t h = cc h
none_of false false true r s t h = cc h
none_of false false false r s t h = (refl, refl)

pub not_refused : {A O F : Type 0} (w : Words A O F) (reg : Registry O) (o : NewObject A) (overwrite : Bool) (time : Option Text) → own_words w reg (Create o overwrite time) ≡ None
    → (is_unknown reg o.type_name ≡ false) × (stamp_too_new (known reg o.type_name) o.given ≡ false)
unfolding own_words
not_refused w reg o overwrite time h = none_of _ _ _ _ _ _ h
