-- What a split of rows around a raw id says of the definitions.
use Rattle.std.proofs.Common.{◌≡◌, ℕ, List, [], ◌∷◌, ◌++◌, Option, Some, None, refl, ◌∙◌, ap}
use Rattle.std.specs.Option.{option_to_list}
use Rattle.std.specs.Prelude.{IfSome}
use Rattle.std.specs.Ordering.{is_lt, is_gt}
use Rattle.saved_doc.specs.declared.doc.Row.{Row}
use Rattle.doc_table.specs.RowLists.{Each, below, above, found}
use Rattle.doc_table.specs.Place.{IsBelow, IsAt, IsAbove, Splits}
use Rattle.doc_table.proofs.Order.{each_weaker, filter_all, filter_none}

below-of : (r : List ℕ) (low : List Row) (here : Option Row) (high : List Row) → Each (IsBelow r) low → IfSome here (IsAt r) → Each (IsAbove r) high → below r (low ++ (option_to_list here ++ high)) ≡ low
below-of r [] None high l s h = filter_none _ high (each_weaker _ _ (λ x e. ap is_lt e) high h)
below-of r [] (Some x) high l s h = rw s (filter_none _ high (each_weaker _ _ (λ x e. ap is_lt e) high h))
below-of r (x ∷ low) here high l s h = rw l.0 (ap (λ (t : List Row). x ∷ t) (below-of r low here high l.1 s h))

above-of : (r : List ℕ) (low : List Row) (here : Option Row) (high : List Row) → Each (IsBelow r) low → IfSome here (IsAt r) → Each (IsAbove r) high → above r (low ++ (option_to_list here ++ high)) ≡ high
above-of r [] None high l s h = filter_all _ high (each_weaker _ _ (λ x e. ap is_gt e) high h)
above-of r [] (Some x) high l s h = rw s (filter_all _ high (each_weaker _ _ (λ x e. ap is_gt e) high h))
above-of r (x ∷ low) here high l s h = rw l.0 (above-of r low here high l.1 s h)

pub found-none : (r : List ℕ) (high : List Row) → Each (IsAbove r) high → found r high ≡ None
found-none r [] h = refl
found-none r (x ∷ xs) h = rw h.0 (found-none r xs h.1)

found-of : (r : List ℕ) (low : List Row) (here : Option Row) (high : List Row) → Each (IsBelow r) low → IfSome here (IsAt r) → Each (IsAbove r) high → found r (low ++ (option_to_list here ++ high)) ≡ here
found-of r [] None high l s h = found-none r high h
found-of r [] (Some x) high l s h = rw s
found-of r (x ∷ low) here high l s h = rw l.0 (found-of r low here high l.1 s h)

pub below-Splits : {r : List ℕ} {rows low : List Row} {here : Option Row} {high : List Row} → Splits r rows low here high → below r rows ≡ low
below-Splits {r} {rows} {low} {here} {high} s = ap (below r) s.whole ∙ below-of r low here high s.lower s.same s.higher

pub above-Splits : {r : List ℕ} {rows low : List Row} {here : Option Row} {high : List Row} → Splits r rows low here high → above r rows ≡ high
above-Splits {r} {rows} {low} {here} {high} s = ap (above r) s.whole ∙ above-of r low here high s.lower s.same s.higher

pub found-Splits : {r : List ℕ} {rows low : List Row} {here : Option Row} {high : List Row} → Splits r rows low here high → found r rows ≡ here
found-Splits {r} {rows} {low} {here} {high} s = ap (found r) s.whole ∙ found-of r low here high s.lower s.same s.higher
