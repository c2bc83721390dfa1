use Rattle.std.proofs.Common.{◌≡◌, ◌++◌, take}
use Rattle.type_registry.proofs.registry.with_copies.Given as goal

abbrev pub invariant-loop-op : goal.invariant-loop-op
invariant-loop-op l = l.all ≡ l.initial.all ++ take l.op-index l.op-items
