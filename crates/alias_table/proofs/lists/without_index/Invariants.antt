use Rattle.std.proofs.Common.{◌≡◌, ◌++◌, drop}
use Rattle.race_model.specs.Stores.{aliases_without}
use Rattle.alias_table.specs.Plans.{keyed_of}
use Rattle.alias_table.proofs.lists.without_index.Given as goal

-- those so far
abbrev pub invariant-loop-pair : goal.invariant-loop-pair
invariant-loop-pair l = keyed_of l.kept ++ aliases_without l.index (keyed_of (drop l.pair-index l.pair-items)) ≡ aliases_without l.index (keyed_of l.pair-items)
