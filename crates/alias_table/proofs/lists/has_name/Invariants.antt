use Rattle.std.proofs.Common.{◌≡◌, drop}
use Rattle.base_model.specs.Keyed.{at}
use Rattle.alias_table.specs.Plans.{bare_indices}
use Rattle.alias_table.proofs.lists.has_name.Given as goal

-- not so far
abbrev pub invariant-loop-other : goal.invariant-loop-other
invariant-loop-other l = at l.name (bare_indices (drop l.other-index l.other-items)) ≡ at l.name (bare_indices l.other-items)
