-- Rows between some that are below a raw id and some that are above.
use Rattle.std.proofs.Common.{◌≡◌, ℕ, true, false, cond, List, [], ◌∷◌, ◌++◌, Option, Some, sym, ◌∙◌, ap, append_assoc, append-nil}
use Rattle.std.specs.Ordering.{is_lt, is_eq, is_gt}
use Rattle.std.proofs.lemmas.List.Elements.{filter-append}
use Rattle.saved_doc.specs.declared.doc.Row.{Row}
use Rattle.doc_table.specs.RowLists.{Each, order, found, below, above, with_row}
use Rattle.doc_table.specs.Place.{IsBelow, IsAbove}
use Rattle.doc_table.proofs.Order.{each_weaker, filter_all, filter_none}
use Rattle.doc_table.proofs.Split.{found-none}

found_front : (r : List ℕ) (xs ys : List Row) → Each (IsAbove r) ys → found r (xs ++ ys) ≡ found r xs
found_front r [] ys h = found-none r ys h
found_front r (x ∷ xs) ys h = ap (λ (t : Option Row). cond (is_eq (order x.raw r)) (Some x) t) (found_front r xs ys h)

pub flank_found : (r : List ℕ) (ws xs ys : List Row) → Each (IsBelow r) ws → Each (IsAbove r) ys → found r (ws ++ (xs ++ ys)) ≡ found r xs
flank_found r [] xs ys l h = found_front r xs ys h
flank_found r (w ∷ ws) xs ys l h = rw l.0 (flank_found r ws xs ys l.1 h)

pub flank_below : (r : List ℕ) (ws xs ys : List Row) → Each (IsBelow r) ws → Each (IsAbove r) ys → below r (ws ++ (xs ++ ys)) ≡ ws ++ below r xs
flank_below r ws xs ys l h =
    let a = filter_all (λ x. is_lt (order x.raw r)) ws (each_weaker (IsBelow r) (λ x. is_lt (order x.raw r) ≡ true) (λ x e. ap is_lt e) ws l) in
    let b = filter_none (λ x. is_lt (order x.raw r)) ys (each_weaker (IsAbove r) (λ x. is_lt (order x.raw r) ≡ false) (λ x e. ap is_lt e) ys h) in
    filter-append _ ws (xs ++ ys) ∙ rw a (ap (λ (t : List Row). ws ++ t) (filter-append _ xs ys ∙ ap (λ (t : List Row). below r xs ++ t) b ∙ append-nil (below r xs)))

pub flank_above : (r : List ℕ) (ws xs ys : List Row) → Each (IsBelow r) ws → Each (IsAbove r) ys → above r (ws ++ (xs ++ ys)) ≡ above r xs ++ ys
flank_above r ws xs ys l h =
    let a = filter_none (λ x. is_gt (order x.raw r)) ws (each_weaker (IsBelow r) (λ x. is_gt (order x.raw r) ≡ false) (λ x e. ap is_gt e) ws l) in
    let b = filter_all (λ x. is_gt (order x.raw r)) ys (each_weaker (IsAbove r) (λ x. is_gt (order x.raw r) ≡ true) (λ x e. ap is_gt e) ys h) in
    filter-append _ ws (xs ++ ys) ∙ rw a (filter-append _ xs ys ∙ ap (λ (t : List Row). above r xs ++ t) b)

pub flank_with : (x : Row) (ws xs ys : List Row) → Each (IsBelow x.raw) ws → Each (IsAbove x.raw) ys → with_row x (ws ++ (xs ++ ys)) ≡ ws ++ (with_row x xs ++ ys)
flank_with x ws xs ys l h =
    rw (flank_below x.raw ws xs ys l h, flank_above x.raw ws xs ys l h)
    (append_assoc ws (below x.raw xs) (x ∷ (above x.raw xs ++ ys)) ∙ ap (λ (t : List Row). ws ++ t) (sym (append_assoc (below x.raw xs) (x ∷ above x.raw xs) ys)))

pub flank_without : (r : List ℕ) (ws xs ys : List Row) → Each (IsBelow r) ws → Each (IsAbove r) ys → below r (ws ++ (xs ++ ys)) ++ above r (ws ++ (xs ++ ys)) ≡ ws ++ ((below r xs ++ above r xs) ++ ys)
flank_without r ws xs ys l h =
    rw (flank_below r ws xs ys l h, flank_above r ws xs ys l h)
    (append_assoc ws (below r xs) (above r xs ++ ys) ∙ ap (λ (t : List Row). ws ++ t) (sym (append_assoc (below r xs) (above r xs) ys)))
