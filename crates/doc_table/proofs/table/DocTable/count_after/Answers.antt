use Rattle.std.proofs.Common.{List, ◌∙◌, length, ap, arith}
use Rattle.std.specs.Option.{option_copied}
use Rattle.document_model.specs.Documents.{Doc}
use Rattle.so_js.specs.declared.js.Js.{Js}
use Rattle.race_model.specs.Stores.{Table}
use Rattle.doc_table.specs.Tables.{table_of, rows_above}
use Rattle.doc_table.specs.declared.page.SharedPage.{SharedPage}
use Rattle.doc_table.specs.Pages.{rows_of}
use Rattle.doc_table.proofs.Entries.{count_entries}
use Rattle.doc_table.proofs.Readers.{few_numbers}
use Rattle.doc_table.proofs.table.DocTable.count_after.Goals as goal

pub count_above-requires-clause-few : goal.count_above-requires-clause-few
count_above-requires-clause-few c =
    let f = few_numbers c.self.inside.next (rows_of c.self.inside.pages.items) c.self.invariant.numbered.apart c.self.invariant.numbered.fresh in
    let e = ap (λ (t : List SharedPage). length (rows_of t)) c.as_slice.ensures.value in
    omega arith

pub returns : goal.returns
returns c =
    c.count_above.ensures ∙ count_entries (option_copied c.args.after) (rows_of c.as_slice.result.now)
    ∙ ap (λ (t : Table (Doc Js)). length (rows_above (option_copied c.args.after) t.rows)) (ap (λ (ps : List SharedPage). table_of (rows_of ps) c.self.inside.next) c.as_slice.ensures.value ∙ c.self.view_is)
