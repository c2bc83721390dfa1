use Rattle.std.proofs.Common.{◌≡◌, ◌+◌, ◌≤◌, drop}
use Rattle.type_registry.specs.Reading.{nesting}
use Rattle.type_registry.proofs.migrations.nesting_of.Given as goal

-- those that were counted, and those that are left
abbrev pub invariant-loop-op : goal.invariant-loop-op
invariant-loop-op l = record {
  whole : l.count + nesting (drop l.op-index l.op-items) ≡ nesting l.op-items;
  below : l.count ≤ l.op-index;
}
