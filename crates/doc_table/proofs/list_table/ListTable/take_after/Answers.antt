use Rattle.std.proofs.Common.{List, take, ◌∙◌, ap, arith}
use Rattle.std.specs.Option.{option_copied}
use Rattle.document_model.specs.Documents.{Doc}
use Rattle.so_js.specs.declared.js.Js.{Js}
use Rattle.race_model.specs.Stores.{Table}
use Rattle.doc_table.specs.Tables.{entries, table_of, rows_above}
use Rattle.doc_table.proofs.Entries.{entries_after}
use Rattle.saved_doc.specs.declared.doc.Row.{Row}
use Rattle.std.proofs.lemmas.List.{take_all}
use Rattle.doc_table.specs.RowLists.{rows_after}
use Rattle.doc_table.proofs.list_table.ListTable.take_after.Goals as goal

pub returns : goal.returns
returns c =
    let rows = c.as_slice-rows.result.now in
    let e = c.loop-i.invariant ∙ ap (λ (t : List Row). take c.args.n (rows_after (option_copied c.args.after) t)) (take_all c.loop-i.i rows (omega arith)) in
    ap entries (c.from_vec.ensures ∙ e) ∙ entries_after c.args.n (option_copied c.args.after) (c.as_slice-rows.result.now)
    ∙ ap (λ (t : Table (Doc Js)). take c.args.n (rows_above (option_copied c.args.after) t.rows)) (ap (λ (rows : List Row). table_of rows c.self.inside.next) c.as_slice-rows.ensures.value ∙ c.self.view_is)
