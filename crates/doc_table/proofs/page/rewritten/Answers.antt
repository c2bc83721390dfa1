use Rattle.std.proofs.Common.{◌≡◌, ◌≤◌, List, length, sym, ◌∙◌, ap, subst}
use Rattle.std.specs.declared.cmp.Ordering.TheVariants.{Less}
use Rattle.saved_doc.specs.declared.doc.Row.{Row}
use Rattle.doc_table.specs.RowLists.{IsRising, order, with_row}
use Rattle.doc_table.specs.Pages.{page_rows}
use Rattle.doc_table.proofs.Live.{pairwise_live}
use Rattle.doc_table.proofs.PageChanges.{few_rows}
use Rattle.doc_table.proofs.page.rewritten.Goals as goal

pub place_by_halves-place-requires : goal.place_by_halves-place-requires
place_by_halves-place-requires c =
    subst IsRising (sym (c.as_slice.ensures.value ∙ c.in_ok-rows.ensures)) (pairwise_live (λ x y. order x.raw y.raw ≡ Less) c.args.held.now.live 0 (page_rows c.args.held.now) c.requires.rising)

pub returns-clause-few : goal.returns-clause-few
returns-clause-few c =
    let e = c.in_ok-put_shared.ensures.ok ∙ ap (with_row c.args.row) c.in_ok-rows.ensures in
    subst (λ (t : List Row). length t ≤ 65) (sym e) (few_rows c.args.row c.args.held.now c.requires.sound)
