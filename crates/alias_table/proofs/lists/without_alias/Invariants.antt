use Rattle.std.proofs.Common.{◌≡◌, ◌++◌, drop}
use Rattle.base_model.specs.Keyed.{without}
use Rattle.alias_table.specs.Plans.{keyed_of}
use Rattle.alias_table.proofs.lists.without_alias.Given as goal

-- those so far
abbrev pub invariant-loop-pair : goal.invariant-loop-pair
invariant-loop-pair l = keyed_of l.kept ++ without l.alias (keyed_of (drop l.pair-index l.pair-items)) ≡ without l.alias (keyed_of l.pair-items)
