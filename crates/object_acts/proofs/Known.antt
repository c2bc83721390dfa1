-- What is told of a type that may be known.
use Rattle.std.proofs.Common.{◌≡◌, ◌||◌, Option, Some, None, Bool, true, false, is_none, refl, option_map}
use Rattle.std.specs.Option.{option_and_then}
use Rattle.document_model.specs.Registries.{Known, latest}
use Rattle.call_model.specs.Acts.{latest_of}

pub latest_over : {O : Type 0} (t : Option (Known O)) → option_and_then latest t ≡ latest_of t
latest_over None = refl
latest_over (Some t) = refl

pub known_some : {O : Type 0} (b : Bool) (t : Option (Known O)) → b || is_none t ≡ false → option_map (λ k. k.kind) t ≡ None → false ≡ true
known_some b (Some t) known none = cc none
known_some true None known none = cc known
known_some false None known none = cc known
