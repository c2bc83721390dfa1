use Rattle.std.proofs.Common.{List, take, ◌∙◌, ap}
use Rattle.std.specs.Option.{option_copied}
use Rattle.document_model.specs.Documents.{Doc}
use Rattle.so_js.specs.declared.js.Js.{Js}
use Rattle.race_model.specs.Stores.{Table}
use Rattle.doc_table.specs.Tables.{entries, table_of, rows_above}
use Rattle.doc_table.proofs.Entries.{entries_after}
use Rattle.doc_table.specs.declared.page.SharedPage.{SharedPage}
use Rattle.doc_table.specs.Pages.{rows_of}
use Rattle.doc_table.proofs.table.DocTable.take_after.Goals as goal

pub returns : goal.returns
returns c =
    ap entries (c.from_vec.ensures ∙ c.in_ok-rows.ensures) ∙ entries_after c.args.n (option_copied c.args.after) (rows_of c.as_slice.result.now)
    ∙ ap (λ (t : Table (Doc Js)). take c.args.n (rows_above (option_copied c.args.after) t.rows)) (ap (λ (ps : List SharedPage). table_of (rows_of ps) c.self.inside.next) c.as_slice.ensures.value ∙ c.self.view_is)
