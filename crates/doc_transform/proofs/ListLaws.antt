-- A list that a loop builds, one element further.
use Rattle.std.proofs.Common.{◌≡◌, ℕ, ◌+◌, ◌<◌, List, [], ◌∷◌, ◌++◌, map, take, length, sym, ap, ◌∙◌, get_or}
use Rattle.std.proofs.lemmas.List.{map_more}

pub push-mapped : {X Y : Type 0} (f : X → Y) (xs : List X) (i : ℕ) (d : X) (all new : List Y) (y : Y)
    → i < length xs → new ≡ all ++ y ∷ [] → all ≡ map f (take i xs) → y ≡ f d → d ≡ get_or xs i d → new ≡ map f (take (i + 1) xs)
push-mapped {Y = Y} f xs i d all new y h new-is all-is y-is d-is =
    new-is
    ∙ ap (λ l. l ++ y ∷ []) all-is
    ∙ ap (λ z. map f (take i xs) ++ z ∷ []) (y-is ∙ ap f d-is)
    ∙ sym (map_more f xs i d h)
