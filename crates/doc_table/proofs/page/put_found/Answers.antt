use Rattle.std.proofs.Common.{◌≡◌, ◌≤◌, List, length, refl, sym, ◌∙◌, ap, subst}
use Rattle.std.specs.Arc.{arc_with_value}
use Rattle.saved_doc.specs.declared.doc.Row.{Row}
use Rattle.doc_table.specs.declared.page.SharedPage.{SharedPage}
use Rattle.doc_table.specs.RowLists.{with_row}
use Rattle.doc_table.specs.Marks.{IsMarked}
use Rattle.doc_table.specs.Place.{IsPlace}
use Rattle.doc_table.specs.Pages.{live_from, page_rows, live_rows}
use Rattle.doc_table.proofs.PageChanges.{full_page}
use Rattle.doc_table.proofs.page.put_found.Goals as goal

abbrev holding : SharedPage → List Row → SharedPage
holding h v = record { page = arc_with_value h.page v; live = h.live; mark = h.mark }

same_page : (h : SharedPage) (v : List Row) → v ≡ h.page.value → holding h v ≡ h
same_page h v e = ap (holding h) e

pub put-requires-clause-place : goal.put-requires-clause-place
put-requires-clause-place c = subst (λ (v : List Row). IsPlace c.args.row.raw v c.args.place) (sym c.in-Some.ensures.value) c.requires.place

pub put-requires-clause-room : goal.put-requires-clause-room
put-requires-clause-room c =
    let r : length (with_row c.args.row (page_rows c.args.held.now)) ≤ 64 = subst (λ (v : List Row). length (with_row c.args.row v) ≤ 64) c.rows.ensures (c.takes.ensures c.args.row c.if-not-takes.false (subst (λ (v : List Row). IsPlace c.args.row.raw v c.args.place) (sym c.rows.ensures) c.requires.place)) in
    subst (λ (v : List Row). length (with_row c.args.row v) ≤ 64) (sym c.in-Some.ensures.value) r

pub returns-in-Err : goal.returns-in-Err
returns-in-Err c = record { told = same_page c.args.held.now c.put.new.self (c.in-Err.ensures.err ∙ c.in-Some.ensures.value) }

pub returns-in-Ok : goal.returns-in-Ok
returns-in-Ok c =
    let h : SharedPage = c.args.held.now in
    let live : live_rows h ≡ page_rows h = ap (λ n. live_from n 0 (page_rows h)) c.if-held.false ∙ full_page (page_rows h) (page_rows h) refl c.requires.sound.1 in
    let a = c.in-Ok.ensures.ok ∙ ap (with_row c.args.row) (c.in-Some.ensures.value ∙ sym live) in
    let r : length (with_row c.args.row (page_rows h)) ≤ 64 = subst (λ (v : List Row). length (with_row c.args.row v) ≤ 64) c.rows.ensures (c.takes.ensures c.args.row c.if-not-takes.false (subst (λ (v : List Row). IsPlace c.args.row.raw v c.args.place) (sym c.rows.ensures) c.requires.place)) in
    let room = subst (λ (v : List Row). length (with_row c.args.row v) ≤ 64) (sym live) r in
    let m = c.mark_with-mark.ensures c.args.row (page_rows h) (sym (c.as_str.ensures ∙ ap (λ (y : Row). y.raw) c.row.ensures)) c.requires.sound.2 c.requires.place in
    record { told = (a, ap (λ n. live_from n 0 c.put.new.self) c.if-held.false ∙ full_page _ _ a room, subst (IsMarked c.mark_with-mark.result) (sym (c.in-Ok.ensures.ok ∙ ap (with_row c.args.row) c.in-Some.ensures.value)) m, room) }
