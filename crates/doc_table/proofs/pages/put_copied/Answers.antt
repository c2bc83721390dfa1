use Rattle.std.proofs.Common.{◌≡◌, ◌++◌, [], ◌∷◌, List, length, set, sym, ◌∙◌, ap, subst, arith, append-nil}
use Rattle.std.proofs.lemmas.List.{take-append-drop, length-take-le, length-drop}
use Rattle.doc_table.specs.declared.page.SharedPage.{SharedPage}
use Rattle.doc_table.specs.RowLists.{Each, with_row}
use Rattle.doc_table.specs.Marks.{IsMarked}
use Rattle.doc_table.specs.Pages.{page_rows, live_rows, all_rows, rows_of, IsSound, IsPages}
use Rattle.doc_table.proofs.PageChanges.{swapped_one, swapped_two, rows_put, pages_put, page_rising}
use Rattle.doc_table.proofs.pages.put_copied.Goals as goal

pub rewritten-requires-clause-rising : goal.rewritten-requires-clause-rising
rewritten-requires-clause-rising c = page_rising c.args.pages.now.items c.args.p c.index.result.now c.requires.pages c.requires.place.within c.index.ensures

pub of-requires-2 : goal.of-requires-2
of-requires-2 c =
    let n = c.if-len-le64.false in
    let l = ap length c.in_ok-right.ensures.items in
    let t = length-take-le 32 c.in_ok-rows.rows.items (omega arith) in
    omega arith

pub of-requires-3 : goal.of-requires-3
of-requires-3 c =
    let few = c.in_ok-rows.ensures.few in
    let l = ap length c.in_ok-right.ensures.tail in
    let d = length-drop 32 c.in_ok-rows.rows.items in
    omega arith

pub returns-then-len-le64-clause-ok : goal.returns-then-len-le64-clause-ok
returns-then-len-le64-clause-ok c =
    let h = c.in_ok-pages.field-0 in
    let e : rows_of (h ∷ []) ≡ with_row c.args.row (live_rows c.index.result.now) = append-nil (live_rows h) ∙ c.in_ok-pages.ensures.live ∙ c.in_ok-rows.ensures.rows in
    ap rows_of (swapped_one c.args.pages.now.items c.args.p h c.requires.place.within) ∙ rows_put c.args.row c.args.pages.now.items c.args.p c.index.result.now (h ∷ []) c.requires.place c.index.ensures e

pub returns-then-len-le64-clause-pages : goal.returns-then-len-le64-clause-pages
returns-then-len-le64-clause-pages c =
    let h = c.in_ok-pages.field-0 in
    let l = ap length c.in_ok-pages.ensures.page in
    let e : all_rows (h ∷ []) ≡ with_row c.args.row (live_rows c.index.result.now) = append-nil (page_rows h) ∙ c.in_ok-pages.ensures.page ∙ c.in_ok-rows.ensures.rows in
    let some = c.in_ok-rows.ensures.some in
    let n = c.if-len-le64.true in
    let m : IsMarked h.mark (page_rows h) = subst (IsMarked h.mark) (sym c.in_ok-pages.ensures.page) c.in_ok-pages.ensures.mark in
    let s : Each IsSound (h ∷ []) = ((omega (arith, some), omega arith, m), tt) in
    subst IsPages (sym (swapped_one c.args.pages.now.items c.args.p h c.requires.place.within)) (pages_put c.args.row c.args.pages.now.items c.args.p c.index.result.now (h ∷ []) c.requires.pages c.requires.place c.index.ensures s e)

pub returns-clause-ok : goal.returns-clause-ok
returns-clause-ok c =
    let l = c.in_ok-left.left in
    let r = c.in_ok-right-2.right in
    let a = c.in_ok-left.ensures.live ∙ c.in_ok-right.ensures.items in
    let b = append-nil (live_rows r) ∙ c.in_ok-right-2.ensures.live ∙ c.in_ok-right.ensures.tail in
    let e : rows_of (l ∷ r ∷ []) ≡ with_row c.args.row (live_rows c.index.result.now) = (λ j. a j ++ b j) ∙ take-append-drop 32 c.in_ok-rows.rows.items ∙ c.in_ok-rows.ensures.rows in
    ap rows_of (ap (λ (t : List SharedPage). set t c.args.p l) c.in_ok-insert.ensures.items ∙ swapped_two c.args.pages.now.items c.args.p l r l c.requires.place.within)
    ∙ rows_put c.args.row c.args.pages.now.items c.args.p c.index.result.now (l ∷ r ∷ []) c.requires.place c.index.ensures e

pub returns-clause-pages : goal.returns-clause-pages
returns-clause-pages c =
    let l = c.in_ok-left.left in
    let r = c.in_ok-right-2.right in
    let a = c.in_ok-left.ensures.page ∙ c.in_ok-right.ensures.items in
    let b0 = c.in_ok-right-2.ensures.page ∙ c.in_ok-right.ensures.tail in
    let b = append-nil (page_rows r) ∙ b0 in
    let e : all_rows (l ∷ r ∷ []) ≡ with_row c.args.row (live_rows c.index.result.now) = (λ j. a j ++ b j) ∙ take-append-drop 32 c.in_ok-rows.rows.items ∙ c.in_ok-rows.ensures.rows in
    let some = c.in_ok-rows.ensures.few in
    let n = c.if-len-le64.false in
    let t = length-take-le 32 c.in_ok-rows.rows.items (omega arith) in
    let d = length-drop 32 c.in_ok-rows.rows.items in
    let la = ap length a in
    let lb = ap length b0 in
    let ml : IsMarked l.mark (page_rows l) = subst (IsMarked l.mark) (sym c.in_ok-left.ensures.page) c.in_ok-left.ensures.mark in
    let mr : IsMarked r.mark (page_rows r) = subst (IsMarked r.mark) (sym c.in_ok-right-2.ensures.page) c.in_ok-right-2.ensures.mark in
    let s : Each IsSound (l ∷ r ∷ []) = ((omega (arith, la, t), omega (arith, la, t), ml), ((omega (arith, lb, d), omega (arith, lb, d, some), mr), tt)) in
    subst IsPages (sym (ap (λ (t : List SharedPage). set t c.args.p l) c.in_ok-insert.ensures.items ∙ swapped_two c.args.pages.now.items c.args.p l r l c.requires.place.within))
    (pages_put c.args.row c.args.pages.now.items c.args.p c.index.result.now (l ∷ r ∷ []) c.requires.pages c.requires.place c.index.ensures s e)
