use Rattle.std.proofs.Common.{◌≡◌, ◌++◌, length}
use Rattle.query_model.specs.Queries.{chosen}
use Rattle.doc_query.specs.Mapped.{query_of, holds_of}
use Rattle.index_store.proofs.reading.scanned.Given as goal

-- with what is chosen of the rows that are left, these are all that are chosen
abbrev pub invariant-loop-row : goal.invariant-loop-row
invariant-loop-row l = l.selection ++ chosen holds_of (query_of l.query) l.rows ≡ chosen holds_of (query_of l.query) l.table.rows

abbrev pub decreases-loop-row : goal.decreases-loop-row
decreases-loop-row l = length l.rows
