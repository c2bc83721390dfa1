use Rattle.std.proofs.Common.{◌≡◌, ◌++◌, drop}
use Rattle.race_model.specs.Stores.{found}
use Rattle.index_store.specs.Serves.{found_of}
use Rattle.index_store.proofs.reading.found_rows.Given as goal

-- those so far
abbrev pub invariant-loop-raw : goal.invariant-loop-raw
invariant-loop-raw l = found_of l.rows ++ found l.table.rows (drop l.raw-index l.raw-items) ≡ found l.table.rows l.raw-items
