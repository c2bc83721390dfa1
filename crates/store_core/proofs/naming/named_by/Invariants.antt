use Rattle.std.proofs.Common.{◌≡◌, drop}
use Rattle.base_model.specs.Keyed.{at}
use Rattle.alias_table.specs.Plans.{keyed_of}
use Rattle.store_core.proofs.naming.named_by.Given as goal

-- the pairs that are left have what all have under the alias
abbrev pub invariant-loop-pair : goal.invariant-loop-pair
invariant-loop-pair l = at l.alias (keyed_of (drop l.pair-index l.pair-items)) ≡ at l.alias (keyed_of l.aliases)
