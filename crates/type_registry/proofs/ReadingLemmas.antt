-- Reading part after part and item after item.
use Rattle.std.proofs.Common.{◌≡◌, List, [], ◌∷◌, ◌++◌, Ok, Err, refl, sym, ap, append_assoc}
use Rattle.type_registry.specs.Reading.{Read, read_then}

-- what was read, and what is left, makes the whole
abbrev pub onto : {B : Type 0} → List B → Read (List B) → Read (List B)
onto done rest = read_then rest (λ ys. Ok (done ++ ys))

pub onto-each : {B : Type 0} (done : List B) (read : Read B) (y : B) (rest : Read (List B)) → read ≡ Ok y
    → onto done (read_then read (λ z. read_then rest (λ ys. Ok (z ∷ ys)))) ≡ onto (done ++ y ∷ []) rest
onto-each done read y (Ok ys) is = rw is (ap (λ (all : List _). Ok all) (sym (append_assoc done (y ∷ []) ys)))
onto-each done read y (Err e) is = rw is refl
