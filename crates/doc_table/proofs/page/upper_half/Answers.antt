use Rattle.std.proofs.Common.{◌≡◌, ◌≤◌, List, take, drop, length, refl, ◌∙◌, ap, arith}
use Rattle.std.specs.Arc.{arc_with_value}
use Rattle.saved_doc.specs.declared.doc.Row.{Row}
use Rattle.doc_table.specs.declared.page.SharedPage.{SharedPage}
use Rattle.doc_table.specs.Pages.{page_rows}
use Rattle.doc_table.proofs.PageChanges.{is_halved}
use Rattle.doc_table.proofs.page.upper_half.Goals as goal

abbrev holding : SharedPage → List Row → SharedPage
holding h v = record { page = arc_with_value h.page v; live = h.live; mark = h.mark }

same_page : (h : SharedPage) (v : List Row) → v ≡ h.page.value → holding h v ≡ h
same_page h v e = ap (holding h) e

pub returns-in-Err : goal.returns-in-Err
returns-in-Err c = record { told = same_page c.args.held.now c.split_off.new.self (c.in-Err.ensures.err ∙ c.in-Some-get_mut.ensures.value) }

pub returns-in-Ok : goal.returns-in-Ok
returns-in-Ok c =
    let n : 64 ≤ length (page_rows c.args.held.now) = let l = ap length c.rows.ensures in omega arith in
    let low : c.split_off.new.self ≡ take 32 (page_rows c.args.held.now) = c.in-Ok.ensures.lower ∙ ap (λ (v : List Row). take 32 v) c.in-Some-get_mut.ensures.value in
    let high : c.in-Ok.tail ≡ drop 32 (page_rows c.args.held.now) = c.in-Ok.ensures.upper ∙ ap (λ (v : List Row). drop 32 v) c.in-Some-get_mut.ensures.value in
    let upper : SharedPage = record { page = arc_with_value c.in_ok-page.field-0.page c.in-Ok.tail; live = 18446744073709551615; mark = c.first_mark-mark.result } in
    record { told = is_halved c.args.held.now (holding c.args.held.now c.split_off.new.self) upper c.requires n c.if-held.false c.if-held.false refl low high refl c.first_mark-mark.ensures }
