use Rattle.std.proofs.Common.{◌≡◌, ◌++◌, drop}
use Rattle.alias_table.specs.Plans.{names_without}
use Rattle.alias_table.proofs.lists.without_name.Given as goal

-- those so far
abbrev pub invariant-loop-other : goal.invariant-loop-other
invariant-loop-other l = l.kept ++ names_without l.name (drop l.other-index l.other-items) ≡ names_without l.name l.other-items
