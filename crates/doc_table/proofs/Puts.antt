-- What writes at a place leave.
use Rattle.std.proofs.Common.{◌≡◌, ℕ, ◌<◌, List, ◌++◌, length, set, Result, None, Ok, Err, sym, ◌∙◌, subst, add-one}
use Rattle.std.specs.Prelude.{slice_get}
use Rattle.std.specs.List.{insert, remove}
use Rattle.std.proofs.lemmas.List.{set_split, take-append-drop}
use Rattle.saved_doc.specs.declared.doc.Row.{Row}
use Rattle.doc_table.specs.RowLists.{below, above, found, with_row}
use Rattle.doc_table.specs.Place.{IsPlace}
use Rattle.doc_table.proofs.Split.{below-Splits, above-Splits, found-Splits}

at_place : (r : List ℕ) (rows : List Row) (p q : Result ℕ ℕ) → p ≡ q → IsPlace r rows p → IsPlace r rows q
at_place r rows p q e h = subst (IsPlace r rows) e h

pub put_here : (rows : List Row) (x : Row) (p : Result ℕ ℕ) (i : ℕ) → p ≡ Ok i → IsPlace x.raw rows p → set rows i x ≡ with_row x rows
put_here rows x p i e h =
    let s = at_place x.raw rows p (Ok i) e h in
    let l : i < length rows = s.0 in
    set_split rows i x l ∙ rw (← add-one) (sym (rw (below-Splits s.1, above-Splits s.1)))

pub put_gap : (rows : List Row) (x : Row) (p : Result ℕ ℕ) (i : ℕ) → p ≡ Err i → IsPlace x.raw rows p → insert rows i x ≡ with_row x rows
put_gap rows x p i e h = let s = at_place x.raw rows p (Err i) e h in sym (rw (below-Splits s.1, above-Splits s.1))

pub out_here : (r : List ℕ) (rows : List Row) (p : Result ℕ ℕ) (i : ℕ) → p ≡ Ok i → IsPlace r rows p → remove rows i ≡ below r rows ++ above r rows
out_here r rows p i e h = let s = at_place r rows p (Ok i) e h in rw (← add-one) (sym (rw (below-Splits s.1, above-Splits s.1)))

pub out_gap : (r : List ℕ) (rows : List Row) (p : Result ℕ ℕ) (i : ℕ) → p ≡ Err i → IsPlace r rows p → rows ≡ below r rows ++ above r rows
out_gap r rows p i e h = let s = at_place r rows p (Err i) e h in sym (rw (below-Splits s.1, above-Splits s.1) (take-append-drop i rows))

pub found_here : (r : List ℕ) (rows : List Row) (p : Result ℕ ℕ) (i : ℕ) → p ≡ Ok i → IsPlace r rows p → slice_get rows i ≡ found r rows
found_here r rows p i e h = let s = at_place r rows p (Ok i) e h in sym (found-Splits s.1)

pub found_gap : (r : List ℕ) (rows : List Row) (p : Result ℕ ℕ) (i : ℕ) → p ≡ Err i → IsPlace r rows p → None ≡ found r rows
found_gap r rows p i e h = let s = at_place r rows p (Err i) e h in sym (found-Splits s.1)
