use Rattle.std.proofs.Common.{◌≡◌, refl, sym, ◌∙◌, ap}
use Rattle.document_model.specs.Documents.{Doc}
use Rattle.so_js.specs.declared.js.Js.{Js}
use Rattle.race_model.specs.Stores.{Table, Item, dropped}
use Rattle.doc_table.specs.Pages.{rows_of}
use Rattle.doc_table.specs.Tables.{number, item_of}
use Rattle.doc_table.proofs.Entries.{number_by}
use Rattle.doc_table.proofs.Cases.{delete_missing, delete_done, delete_refused}
use Rattle.doc_table.proofs.table.DocTable.delete.Goals as goal

pub returns-in-None : goal.returns-in-None
returns-in-None c =
    let k : c.find-now.result.1 ≡ number c.args.self.now c.args.raw.now = c.find-now.ensures.number ∙ number_by c.args.self.now c.args.raw.now c.args.raw.now (rows_of c.self.inside.pages.items) (rows_of c.as_slice.result.now) c.self.inside.next (ap rows_of c.as_slice.ensures.value) refl c.self.view_is in
    delete_missing c.args.self.now c.args.raw.now c.args.expect (sym k ∙ c.in-None.is)

pub returns-then-meets : goal.returns-then-meets
returns-then-meets c =
    let k : c.find-now.result.1 ≡ number c.args.self.now c.args.raw.now = c.find-now.ensures.number ∙ number_by c.args.self.now c.args.raw.now c.args.raw.now (rows_of c.self.inside.pages.items) (rows_of c.as_slice.result.now) c.self.inside.next (ap rows_of c.as_slice.ensures.value) refl c.self.view_is in
    (λ j. (c.erase_at.ensures.table j, item_of (c.erase_at.ensures.item j)))
    ∙ ap (λ (t : Table (Doc Js)). (dropped t c.args.raw.now, Item.Written t.next)) c.self.view_is
    ∙ delete_done c.args.self.now c.args.raw.now c.args.expect c.in-Some.now (sym k ∙ c.in-Some.is) (sym c.meets.ensures ∙ c.if-meets.true)

pub returns-else-meets : goal.returns-else-meets
returns-else-meets c =
    let k : c.find-now.result.1 ≡ number c.args.self.now c.args.raw.now = c.find-now.ensures.number ∙ number_by c.args.self.now c.args.raw.now c.args.raw.now (rows_of c.self.inside.pages.items) (rows_of c.as_slice.result.now) c.self.inside.next (ap rows_of c.as_slice.ensures.value) refl c.self.view_is in
    delete_refused c.args.self.now c.args.raw.now c.args.expect c.in-Some.now (sym k ∙ c.in-Some.is) (sym c.meets.ensures ∙ c.if-meets.false)
