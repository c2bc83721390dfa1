-- What `==` says of lists of texts.
use Rattle.std.proofs.Common.{◌≡◌, ℕ, List, Bool, sym, ◌∙◌}
use Rattle.std.specs.Prelude.{nat_eq, IsTrue, ◌↔◌}
use Rattle.std.specs.Cmp.Lexicographic.{pointwise, pointwise_decides, bytes_decides}

-- an answer of `==` is true exactly where the lists are equal
pub texts_equal : (xs ys : List (List ℕ)) (r : Bool) → r ≡ pointwise (pointwise nat_eq) xs ys → IsTrue r ↔ (xs ≡ ys)
texts_equal xs ys r is =
    let both = pointwise_decides bytes_decides xs ys in
    (λ yes. both.0 (sym is ∙ yes), λ same. is ∙ both.1 same)
