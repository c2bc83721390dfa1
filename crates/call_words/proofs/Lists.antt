-- A list that a loop builds is that of the definition.
use Rattle.std.proofs.Common.{◌≡◌, List, [], ◌∷◌, map, refl, ap}
use Rattle.base_model.specs.Keyed.{Text}
use Rattle.document_model.specs.Registries.{Registry}
use Rattle.query_model.specs.declared.parts.TypeKind.{TypeKind}
use Rattle.call_model.specs.Acts.{kind_of}
use Rattle.call_model.specs.Steps.{with_kinds}

pub all_with_kinds : {O : Type 0} (reg : Registry O) (names : List Text) → map (λ name. record { name = name; kind = kind_of reg name }) names ≡ with_kinds reg names
all_with_kinds reg [] = refl
all_with_kinds reg (n ∷ ns) = ap (λ (kinds : List TypeKind). record { name = n; kind = kind_of reg n } ∷ kinds) (all_with_kinds reg ns)
