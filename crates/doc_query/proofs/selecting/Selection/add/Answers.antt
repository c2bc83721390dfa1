use Rattle.std.proofs.Common.{List, ◌∷◌, ◌++◌, Bor, sym, ap, ◌∙◌}
use Rattle.race_model.specs.Stores.{Rows}
use Rattle.document_model.specs.Documents.{Doc}
use Rattle.so_js.specs.declared.js.Js.{Js}
use Rattle.saved_doc.specs.declared.doc.Row.{Row}
use Rattle.query_model.specs.Queries.{chosen}
use Rattle.doc_query.specs.Mapped.{query_of, cell_of, holds_of}
use Rattle.doc_query.proofs.Pages.{borrowed, goes_on_with, chosen_without}
use Rattle.doc_query.proofs.selecting.Selection.add.Goals as goal

pub returns-in_ok-push-clause-goes_on : goal.returns-in_ok-push-clause-goes_on
returns-in_ok-push-clause-goes_on c = λ rest.
    ap (λ (items : List (Bor Row)). borrowed items ++ chosen holds_of (query_of c.args.query.now) rest) c.in_ok-push.ensures.items
    ∙ goes_on_with holds_of (query_of c.args.query.now) c.self.inside.rows.items c.args.row rest (sym c.fits.ensures ∙ c.if-fits.true)
    ∙ ap (λ (l : Rows (Doc Js)). l ++ chosen holds_of (query_of c.args.query.now) (cell_of c.args.row.now ∷ rest)) c.self.view_is

pub returns-else-fits-clause-goes_on : goal.returns-else-fits-clause-goes_on
returns-else-fits-clause-goes_on c = λ rest.
    ap (λ (l : Rows (Doc Js)). c.args.self.now ++ l) (sym (chosen_without holds_of (query_of c.args.query.now) (cell_of c.args.row.now) rest (sym c.fits.ensures ∙ c.if-fits.false)))
