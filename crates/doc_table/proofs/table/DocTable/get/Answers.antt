use Rattle.std.proofs.Common.{◌∙◌, ap, List}
use Rattle.std.specs.Option.{option_map}
use Rattle.base_model.specs.Keyed.{at}
use Rattle.document_model.specs.Documents.{Doc}
use Rattle.race_model.specs.Stores.{Table, found_one}
use Rattle.so_js.specs.declared.js.Js.{Js}
use Rattle.doc_table.specs.declared.page.SharedPage.{SharedPage}
use Rattle.doc_table.specs.Pages.{rows_of}
use Rattle.doc_table.specs.Tables.{entry_of, table_of}
use Rattle.doc_table.proofs.Entries.{one_entries}
use Rattle.doc_table.proofs.table.DocTable.get.Goals as goal

pub returns : goal.returns
returns c =
    ap (option_map entry_of) c.look_in.ensures ∙ one_entries c.args.raw.now (rows_of c.as_slice.result.now)
    ∙ ap (λ (t : Table (Doc Js)). found_one (at c.args.raw.now t.rows) c.args.raw.now) (ap (λ (ps : List SharedPage). table_of (rows_of ps) c.self.inside.next) c.as_slice.ensures.value ∙ c.self.view_is)
