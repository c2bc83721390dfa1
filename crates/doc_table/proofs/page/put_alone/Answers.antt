use Rattle.std.proofs.Common.{◌≡◌, ◌≤◌, List, length, sym, ◌∙◌, ap, subst, arith}
use Rattle.std.specs.declared.cmp.Ordering.TheVariants.{Less}
use Rattle.saved_doc.specs.declared.doc.Row.{Row}
use Rattle.doc_table.specs.RowLists.{IsRising, order, with_row}
use Rattle.doc_table.specs.Pages.{live_from, live_rows, page_rows}
use Rattle.doc_table.proofs.Live.{pairwise_live, length-live}
use Rattle.doc_table.proofs.PageChanges.{full_page}
use Rattle.doc_table.proofs.page.put_alone.Goals as goal

pub place-place-requires : goal.place-place-requires
place-place-requires c =
    let e : c.keep_live.new.rows ≡ live_rows c.args.held.now = c.keep_live.ensures ∙ ap (λ (v : List Row). live_from c.args.held.now.live 0 v) c.in-Some.ensures.value in
    subst IsRising (sym e) (pairwise_live (λ x y. order x.raw y.raw ≡ Less) c.args.held.now.live 0 (page_rows c.args.held.now) c.requires.rising)

pub put-requires-clause-room : goal.put-requires-clause-room
put-requires-clause-room c =
    let e : c.keep_live.new.rows ≡ live_rows c.args.held.now = c.keep_live.ensures ∙ ap (λ (v : List Row). live_from c.args.held.now.live 0 v) c.in-Some.ensures.value in
    subst (λ (v : List Row). length (with_row c.args.row v) ≤ 64) (sym e) c.requires.room

pub returns-in-Ok-clause-told : goal.returns-in-Ok-clause-told
returns-in-Ok-clause-told c =
    let e : c.keep_live.new.rows ≡ live_rows c.args.held.now = c.keep_live.ensures ∙ ap (λ (v : List Row). live_from c.args.held.now.live 0 v) c.in-Some.ensures.value in
    let a = c.in-Ok.ensures.ok ∙ ap (with_row c.args.row) e in
    (a, full_page _ _ a c.requires.room)

pub returns-in-Err-clause-told : goal.returns-in-Err-clause-told
returns-in-Err-clause-told c =
    let e : c.keep_live.new.rows ≡ live_rows c.args.held.now = c.keep_live.ensures ∙ ap (λ (v : List Row). live_from c.args.held.now.live 0 v) c.in-Some.ensures.value in
    let a = c.in-Err.ensures.err ∙ e in
    (a, full_page _ _ a (let s = c.requires.sound.1 in let k = length-live c.args.held.now.live 0 (page_rows c.args.held.now) in omega arith))
