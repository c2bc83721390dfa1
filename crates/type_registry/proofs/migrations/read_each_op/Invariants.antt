use Rattle.std.proofs.Common.{◌≡◌, drop, true}
use Rattle.std.specs.List.{list_all}
use Rattle.so_js.specs.Printing.{are_sound}
use Rattle.transform_ops.specs.Effects.{op_is_sound}
use Rattle.type_registry.specs.Reading.{ops_each}
use Rattle.type_registry.proofs.ReadingLemmas.{onto}
use Rattle.type_registry.proofs.migrations.read_each_op.Given as goal

-- what was read, and what is left, makes the whole
abbrev pub invariant-loop-item : goal.invariant-loop-item
invariant-loop-item l = record {
  whole : onto l.all (ops_each (drop l.item-index l.item-items)) ≡ ops_each l.item-items;
  left : are_sound (drop l.item-index l.item-items) ≡ true;
  sound : list_all op_is_sound l.all ≡ true;
}
