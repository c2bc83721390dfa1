use Rattle.std.proofs.Common.{List, length, sym, ◌∙◌, subst, ap, arith}
use Rattle.doc_table.specs.declared.page.SharedPage.{SharedPage}
use Rattle.doc_table.specs.RowLists.{IsRising}
use Rattle.doc_table.specs.Pages.{rows_of}
use Rattle.doc_table.proofs.Readers.{few_numbers, numbered_counted}
use Rattle.race_model.specs.Stores.{renumbered}
use Rattle.doc_table.specs.Tables.{table_of}
use Rattle.doc_table.proofs.Entries.{table_counted}
use Rattle.doc_table.proofs.table.DocTable.renumbered.Goals as goal

pub count_pages-requires-clause-rising : goal.count_pages-requires-clause-rising
count_pages-requires-clause-rising c = subst (λ (t : List SharedPage). IsRising (rows_of t)) (sym c.as_slice.ensures.value) c.self.invariant.numbered.rising

pub count_pages-requires-clause-few : goal.count_pages-requires-clause-few
count_pages-requires-clause-few c =
    let f = few_numbers c.self.inside.next (rows_of c.self.inside.pages.items) c.self.invariant.numbered.apart c.self.invariant.numbered.fresh in
    let e = ap (λ (t : List SharedPage). length (rows_of t)) c.as_slice.ensures.value in
    omega arith

pub invariant_of-result : goal.invariant_of-result
invariant_of-result c =
    let rows = rows_of c.as_slice.result.now in
    let r : IsRising rows = subst (λ (t : List SharedPage). IsRising (rows_of t)) (sym c.as_slice.ensures.value) c.self.invariant.numbered.rising in
    record {
      numbered = rw (c.in_ok-pages.ensures.rows, c.in_ok-pages.ensures.count) (numbered_counted rows r);
      paged = c.in_ok-pages.ensures.pages;
    }

pub returns : goal.returns
returns c =
    (λ j. table_of (c.in_ok-pages.ensures.rows j) (c.in_ok-pages.ensures.count j)) ∙ table_counted (rows_of c.as_slice.result.now) c.self.inside.next
    ∙ ap renumbered (ap (λ (ps : List SharedPage). table_of (rows_of ps) c.self.inside.next) c.as_slice.ensures.value ∙ c.self.view_is)
