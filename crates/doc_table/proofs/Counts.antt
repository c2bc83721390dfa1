-- How many rows are above a raw id.
use Rattle.std.proofs.Common.{◌≡◌, ℕ, ◌+◌, ◌<◌, ◌≤◌, suc, Bool, true, false, cond, ◌&&◌, List, [], ◌∷◌, ◌++◌, length, take, drop, get_or, Option, refl, sym, ◌∙◌, ap, arith, length-append}
use Rattle.std.specs.Prelude.{◌==◌}
use Rattle.std.specs.Int.{bit_at}
use Rattle.std.specs.List.{filter}
use Rattle.std.proofs.lemmas.List.Elements.{filter-append}
use Rattle.saved_doc.specs.declared.doc.Row.{Row}
use Rattle.doc_table.specs.RowLists.{rows_after, is_after}
use Rattle.doc_table.specs.declared.page.SharedPage.{SharedPage}
use Rattle.doc_table.specs.Pages.{live_from, live_rows, rows_of}
use Rattle.doc_table.proofs.Live.{live_more, length-live}
use Rattle.doc_table.proofs.Readers.{rows_more, rows_rest, page_fits, length-take-bound}

filter_one : (p : Row → Bool) (t : Bool) (x : Row) → filter p (cond t (x ∷ []) []) ≡ cond (t && p x) (x ∷ []) []
filter_one p true x = refl
filter_one p false x = refl

-- one row more
pub one_more : (a : Option (List ℕ)) (b i : ℕ) (rows : List Row) (x : Row) (keep : Bool) → i < length rows → x ≡ get_or rows i x → keep ≡ ((bit_at b i == 1) && is_after a x)
    → length (rows_after a (live_from b 0 (take (i + 1) rows))) ≡ length (rows_after a (live_from b 0 (take i rows))) + length (cond keep (x ∷ []) [])
one_more a b i rows x keep h e k =
    let f = rows_after a (live_from b 0 (take i rows)) in
    let c = cond ((bit_at b i == 1) && is_after a x) (x ∷ []) [] in
    ap (λ (t : List Row). length (rows_after a t)) (live_more b i rows x h e)
    ∙ ap length (filter-append (is_after a) (live_from b 0 (take i rows)) (cond (bit_at b i == 1) (x ∷ []) []) ∙ ap (λ (t : List Row). f ++ t) (filter_one (is_after a) (bit_at b i == 1) x))
    ∙ length-append f c ∙ ap (λ (t : Bool). length f + length (cond t (x ∷ []) [])) (sym k)

-- no row before the page at which rows above begin
pub none_before : (a : Option (List ℕ)) (ps : List SharedPage) (p : ℕ) → rows_after a (rows_of (drop p ps)) ≡ rows_after a (rows_of ps) → 0 ≡ length (rows_after a (rows_of (take p ps)))
none_before a ps p e =
    let l = ap length (e ∙ rows_rest a ps p) in
    let m = length-append (rows_after a (rows_of (take p ps))) (rows_after a (rows_of (drop p ps))) in
    omega arith

-- one page more
pub page_more : (a : Option (List ℕ)) (ps : List SharedPage) (i : ℕ) (h : SharedPage) → i < length ps → h ≡ get_or ps i h
    → length (rows_after a (rows_of (take (i + 1) ps))) ≡ length (rows_after a (rows_of (take i ps))) + length (rows_after a (live_rows h))
page_more a ps i h l e =
    ap (λ (t : List Row). length (rows_after a t)) (rows_more ps i h l e) ∙ ap length (filter-append (is_after a) (rows_of (take i ps)) (live_rows h))
    ∙ length-append (rows_after a (rows_of (take i ps))) (rows_after a (live_rows h))

shorter_after : (a : Option (List ℕ)) (rows : List Row) → length (rows_after a rows) ≤ length rows
shorter_after a [] = omega arith
shorter_after a (x ∷ rows) = let h = shorter_after a rows in elim (is_after a x) as (λ t. length (cond t (x ∷ rows_after a rows) (rows_after a rows)) ≤ suc (length rows)) [ true ↦ omega arith | false ↦ omega arith ]

-- not more than all rows
pub within_all : (a : Option (List ℕ)) (ps : List SharedPage) (i : ℕ) (h : SharedPage) → i < length ps → h ≡ get_or ps i h
    → length (rows_after a (rows_of (take i ps))) + length (rows_after a (live_rows h)) ≤ length (rows_of ps)
within_all a ps i h l e =
    let f = page_fits ps i h l e in
    let m = shorter_after a (rows_of (take i ps)) in
    let n = shorter_after a (live_rows h) in
    omega arith

-- not more than the rows that were looked at
pub count_bound : (a : Option (List ℕ)) (b i : ℕ) (rows : List Row) → length (rows_after a (live_from b 0 (take i rows))) ≤ i
count_bound a b i rows =
    let m = shorter_after a (live_from b 0 (take i rows)) in
    let n = length-live b 0 (take i rows) in
    let t = length-take-bound i rows in
    omega arith
