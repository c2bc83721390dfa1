use Rattle.std.proofs.Common.{◌≡◌, ◌++◌, drop}
use Rattle.query_model.specs.Queries.{chosen}
use Rattle.doc_query.specs.Mapped.{query_of, cells_of, holds_of}
use Rattle.doc_query.proofs.selecting.select.Given as goal

-- with what is chosen of the rows that are left, these are all that are chosen
abbrev pub invariant-loop-row : goal.invariant-loop-row
invariant-loop-row l = l.selection ++ chosen holds_of (query_of l.query) (cells_of (drop l.row-index l.rows)) ≡ chosen holds_of (query_of l.query) (cells_of l.rows)
