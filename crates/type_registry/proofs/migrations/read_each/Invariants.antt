use Rattle.std.proofs.Common.{◌≡◌, ◌≤◌, drop, true}
use Rattle.so_js.specs.Printing.{are_sound}
use Rattle.type_registry.specs.Reading.{migrations_after}
use Rattle.type_registry.proofs.ReadingLemmas.{onto}
use Rattle.type_registry.proofs.migrations.read_each.Given as goal

-- what was read, and what is left, makes the whole
abbrev pub invariant-loop-item : goal.invariant-loop-item
invariant-loop-item l = record {
  whole : onto l.all (migrations_after l.top l.last l.nested (drop l.item-index l.item-items)) ≡ migrations_after l.top l.initial.last l.initial.nested l.item-items;
  sound : are_sound (drop l.item-index l.item-items) ≡ true;
  few : l.nested ≤ 32;
}
