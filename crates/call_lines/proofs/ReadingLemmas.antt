-- Reading item after item.
use Rattle.std.proofs.Common.{◌≡◌, List, [], ◌∷◌, ◌++◌, Ok, Err, refl, sym, ap, append_assoc}
use Rattle.call_lines.specs.Reading.{Read, and_then}

-- what was read, and what is left, makes the whole
abbrev pub onto : {B : Type 0} → List B → Read (List B) → Read (List B)
onto done rest = and_then rest (λ ys. Ok (done ++ ys))

pub onto-each : {A B : Type 0} (read : A → Read B) (done : List B) (x : A) (y : B) (rest : Read (List B)) → read x ≡ Ok y
    → onto done (and_then (read x) (λ z. and_then rest (λ ys. Ok (z ∷ ys)))) ≡ onto (done ++ y ∷ []) rest
onto-each read done x y (Ok ys) is = rw is (ap (λ (all : List _). Ok all) (sym (append_assoc done (y ∷ []) ys)))
onto-each read done x y (Err e) is = rw is refl
