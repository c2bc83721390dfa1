use Rattle.std.proofs.Common.{◌≡◌, drop, length, true}
use Rattle.so_js.specs.Printing.{are_sound}
use Rattle.call_lines.specs.Reading.{each}
use Rattle.call_lines.specs.Calls.{new_object_in}
use Rattle.call_lines.proofs.ReadingLemmas.{onto}
use Rattle.call_lines.proofs.creating.read_each_new_object.Given as goal

-- what was read, and what is left, makes the whole
abbrev pub invariant-loop-item : goal.invariant-loop-item
invariant-loop-item l = record {
  whole : onto l.all (each new_object_in (drop l.item-index l.item-items)) ≡ each new_object_in l.item-items;
  sound : are_sound (drop l.item-index l.item-items) ≡ true;
  counts : length l.all ≡ l.item-index;
}
