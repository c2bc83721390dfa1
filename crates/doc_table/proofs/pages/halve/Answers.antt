use Rattle.std.proofs.Common.{◌≡◌, ◌<◌, List, length, sym, ◌∙◌, ap, subst}
use Rattle.doc_table.specs.declared.page.SharedPage.{SharedPage}
use Rattle.doc_table.specs.Pages.{rows_of, IsPages, IsHalved}
use Rattle.doc_table.proofs.PageChanges.{swapped_halves, rows_halved, pages_halved}
use Rattle.doc_table.proofs.pages.halve.Goals as goal

pub returns-in_ok-insert-in-Some-clause-rows : goal.returns-in_ok-insert-in-Some-clause-rows
returns-in_ok-insert-in-Some-clause-rows c =
    let ps : List SharedPage = c.reserve.new.self.items in
    let e : ps ≡ c.args.pages.now.items = c.reserve.ensures.items in
    let w : c.args.p < length ps = subst (λ (t : List SharedPage). c.args.p < length t) (sym e) c.requires.within in
    let t : IsHalved c.index_mut.result.now c.upper_half.new.held c.in-Some.upper = rw c.in-Some.is at c.in_ok-upper.ensures.told in
    ap rows_of (c.in_ok-insert-in-Some.ensures.items ∙ swapped_halves ps c.args.p c.upper_half.new.held c.in-Some.upper w)
    ∙ rows_halved ps c.args.p c.index_mut.result.now c.upper_half.new.held c.in-Some.upper w c.index_mut.ensures.value t ∙ ap rows_of e

pub returns-in_ok-insert-in-Some-clause-pages : goal.returns-in_ok-insert-in-Some-clause-pages
returns-in_ok-insert-in-Some-clause-pages c =
    let ps : List SharedPage = c.reserve.new.self.items in
    let e : ps ≡ c.args.pages.now.items = c.reserve.ensures.items in
    let w : c.args.p < length ps = subst (λ (t : List SharedPage). c.args.p < length t) (sym e) c.requires.within in
    let t : IsHalved c.index_mut.result.now c.upper_half.new.held c.in-Some.upper = rw c.in-Some.is at c.in_ok-upper.ensures.told in
    subst IsPages (sym (c.in_ok-insert-in-Some.ensures.items ∙ swapped_halves ps c.args.p c.upper_half.new.held c.in-Some.upper w))
    (pages_halved ps c.args.p c.index_mut.result.now c.upper_half.new.held c.in-Some.upper (subst IsPages (sym e) c.requires.pages) w c.index_mut.ensures.value t)
