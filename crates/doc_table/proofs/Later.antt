-- The rows of the pages behind the one in which a raw id stands.
use Rattle.std.proofs.Common.{◌≡◌, ℕ, zero, suc, ◌+◌, ◌-◌, ◌<◌, ◌≤◌, true, List, [], ◌∷◌, length, take, drop, get_or, Option, Some, None, refl, sym, ◌∙◌, ap, subst, arith, drop-drop}
use Rattle.std.proofs.lemmas.List.{length-drop, take_all}
use Rattle.std.specs.Ordering.{is_gt}
use Rattle.saved_doc.specs.declared.doc.Row.{Row}
use Rattle.doc_table.specs.declared.page.SharedPage.{SharedPage}
use Rattle.doc_table.specs.RowLists.{Each, IsAllAfter, order, is_after, rows_after}
use Rattle.doc_table.specs.Place.{IsAbove}
use Rattle.doc_table.specs.Pages.{live_rows, all_rows, rows_of}
use Rattle.doc_table.proofs.Order.{each_weaker, each_front, each_back, filter_all}
use Rattle.doc_table.proofs.PageLists.{each_live_rows}

-- all rows are above where nothing is asked
pub none_asked : (rows : List Row) → IsAllAfter None rows
none_asked [] = tt
none_asked (x ∷ xs) = (refl, none_asked xs)

pub none_after : (rows : List Row) → rows_after None rows ≡ rows
none_after rows = filter_all (is_after None) rows (none_asked rows)

pub above_after : (r : List ℕ) (ps : List SharedPage) → Each (IsAbove r) (all_rows ps) → IsAllAfter (Some r) (rows_of ps)
above_after r ps w = each_weaker (IsAbove r) (λ x. is_gt (order x.raw r) ≡ true) (λ x e. ap is_gt e) (rows_of ps) (each_live_rows (IsAbove r) ps w)

page_within : (P : Row → Type 0) (ps : List SharedPage) (i : ℕ) (h : SharedPage) → i < length ps → h ≡ get_or ps i h → Each P (rows_of ps) → Each P (live_rows h)
page_within P [] i h l e w = absurd (omega arith)
page_within P (q ∷ ps) zero h l e w = subst (λ (t : SharedPage). Each P (live_rows t)) (sym e) (each_front P (live_rows q) (rows_of ps) w)
page_within P (q ∷ ps) (suc i) h l e w = page_within P ps i h (omega arith) e (each_back P (live_rows q) (rows_of ps) w)

-- what is said of the rows from a page on is said of those of each of these pages
pub page_later : (P : Row → Type 0) (n : ℕ) (ps : List SharedPage) (i : ℕ) (h : SharedPage) → n ≤ i → i < length ps → h ≡ get_or ps i h → Each P (rows_of (drop n ps)) → Each P (live_rows h)
page_later P zero ps i h k l e w = page_within P ps i h l e w
page_later P (suc n) [] i h k l e w = absurd (omega arith)
page_later P (suc n) (q ∷ ps) zero h k l e w = absurd (omega arith)
page_later P (suc n) (q ∷ ps) (suc i) h k l e w = page_later P n ps i h (omega arith) (omega arith) e w

pub later_rest : (a : Option (List ℕ)) (n : ℕ) (ps : List SharedPage) → IsAllAfter a (rows_of (drop (n + 1) ps)) → IsAllAfter a (rows_of (drop 1 (take (length ps - n) (drop n ps))))
later_rest a n ps w =
    let l = length-drop n ps in
    let seam : drop (n + 1) ps ≡ drop 1 (drop n ps) = sym (drop-drop 1 n ps) in
    let t : take (length ps - n) (drop n ps) ≡ drop n ps = take_all (length ps - n) (drop n ps) (omega arith) in
    subst (λ (qs : List SharedPage). IsAllAfter a (rows_of qs)) (seam ∙ ap (drop 1) (sym t)) w
