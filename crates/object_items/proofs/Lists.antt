-- Lists that grow at their end.
use Rattle.std.proofs.Common.{◌≡◌, List, [], ◌∷◌, ◌++◌, map, refl, ap, ◌∙◌, append_assoc}

pub map_pushed : {A B : Type 0} (f : A → B) (xs : List A) (x : A) (rest : List B) → map f (xs ++ x ∷ []) ++ rest ≡ map f xs ++ f x ∷ rest
map_pushed f [] x rest = refl
map_pushed {B} f (y ∷ xs) x rest = ap (λ (ys : List B). f y ∷ ys) (map_pushed f xs x rest)

-- what was done, and the first of what is left, before the rest
pub added_on : {B : Type 0} (done more first rest whole : List B) → more ≡ done ++ first → done ++ (first ++ rest) ≡ whole → more ++ rest ≡ whole
added_on {B} done more first rest whole added before =
    ap (λ (all : List B). all ++ rest) added ∙ append_assoc done first rest ∙ before
