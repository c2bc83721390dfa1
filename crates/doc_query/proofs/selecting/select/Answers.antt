use Rattle.std.proofs.Common.{◌≡◌, ◌+◌, List, [], ◌∷◌, ◌++◌, length, drop, append-nil, sym, ap, subst, ◌∙◌}
use Rattle.std.specs.Result.{IfOk}
use Rattle.std.proofs.lemmas.List.{drop_more, drop_all}
use Rattle.race_model.specs.Stores.{Rows}
use Rattle.document_model.specs.Documents.{Doc}
use Rattle.so_js.specs.declared.js.Js.{Js}
use Rattle.saved_doc.specs.declared.doc.Row.{Row}
use Rattle.query_model.specs.Queries.{chosen, limited, in_order}
use Rattle.doc_query.specs.Mapped.{query_of, cells_of, holds_of}
use Rattle.doc_query.proofs.selecting.select.Goals as goal

pub loop-row-preserved : goal.loop-row-preserved
loop-row-preserved c =
    let i = c.loop-row.row-index in
    let rows = c.args.rows.now in
    let rest = drop (i + 1) rows in
    let left : drop i rows ≡ c.row-item.result ∷ rest = drop_more rows i c.row-item.result c.loop-row-test.true ∙ ap (λ x. x ∷ rest) (sym c.row-item.is) in
    c.in_ok-add.ensures.goes_on (cells_of rest)
    ∙ ap (λ (l : List Row). c.loop-row.selection ++ chosen holds_of (query_of c.args.query.now) (cells_of l)) (sym left) ∙ c.loop-row.invariant

pub returns-clause-total : goal.returns-clause-total
unfolding chosen
returns-clause-total c =
    let rows = c.args.rows.now in
    let none : drop c.loop-row.row-index rows ≡ [] = drop_all c.loop-row.row-index rows c.loop-row-test.false in
    let all = sym (append-nil c.loop-row.selection)
    ∙ ap (λ (l : List Row). c.loop-row.selection ++ chosen holds_of (query_of c.args.query.now) (cells_of l)) (sym none) ∙ c.loop-row.invariant in
    subst (λ (chosen_rows : Rows (Doc Js)). IfOk c.finish.result (λ s. s.total ≡ length chosen_rows)) all c.finish.ensures.total

pub returns-clause-rows : goal.returns-clause-rows
unfolding chosen
returns-clause-rows c =
    let rows = c.args.rows.now in
    let q = query_of c.args.query.now in
    let none : drop c.loop-row.row-index rows ≡ [] = drop_all c.loop-row.row-index rows c.loop-row-test.false in
    let all = sym (append-nil c.loop-row.selection)
    ∙ ap (λ (l : List Row). c.loop-row.selection ++ chosen holds_of (query_of c.args.query.now) (cells_of l)) (sym none) ∙ c.loop-row.invariant in
    subst (λ (chosen_rows : Rows (Doc Js)). IfOk c.finish.result (λ s. cells_of s.rows ≡ limited q.limit (drop q.skip (in_order q.sort q.descending chosen_rows)))) all c.finish.ensures.rows
