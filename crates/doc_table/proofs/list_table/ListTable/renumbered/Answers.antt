use Rattle.std.proofs.Common.{◌+◌, ◌++◌, ◌∷◌, [], List, length, sym, ◌∙◌, ap, subst, arith}
use Rattle.std.proofs.lemmas.List.{take_all}
use Rattle.saved_doc.specs.declared.doc.Row.{Row}
use Rattle.doc_table.specs.RowLists.{IsNumbered, IsRising, counted_from}
use Rattle.doc_table.proofs.Readers.{counted_more, numbered_counted}
use Rattle.race_model.specs.Stores.{renumbered}
use Rattle.doc_table.specs.Tables.{table_of}
use Rattle.doc_table.proofs.Entries.{table_counted}
use Rattle.doc_table.proofs.list_table.ListTable.renumbered.Goals as goal

pub loop-i-preserved : goal.loop-i-preserved
loop-i-preserved c =
    let x = c.index-rows-i.result in
    let m = 0 + length c.loop-i.out.items in
    let l = ap length c.loop-i.invariant in
    c.in_ok-push_counted.ensures ∙ ap (λ (t : List Row). t ++ record x { seq = m } ∷ []) c.loop-i.invariant
    ∙ sym (counted_more 0 c.loop-i.i c.as_slice-rows.result.now x m c.loop-i-test.true c.index-rows-i.is (omega (arith, l)))

pub invariant_of-result : goal.invariant_of-result
invariant_of-result c =
    let rows = c.as_slice-rows.result.now in
    let e = c.loop-i.invariant ∙ ap (counted_from 0) (take_all c.loop-i.i rows (omega arith)) in
    subst (λ (t : List Row). IsNumbered t (length rows)) (sym e) (numbered_counted rows (subst IsRising (sym c.as_slice-rows.ensures.value) c.self.invariant.rising))

pub returns : goal.returns
returns c =
    let rows = c.as_slice-rows.result.now in
    let e = c.loop-i.invariant ∙ ap (counted_from 0) (take_all c.loop-i.i rows (omega arith)) in
    ap (λ (t : List Row). table_of t (length rows)) e ∙ table_counted rows c.self.inside.next ∙ ap renumbered (ap (λ (rows : List Row). table_of rows c.self.inside.next) c.as_slice-rows.ensures.value ∙ c.self.view_is)
