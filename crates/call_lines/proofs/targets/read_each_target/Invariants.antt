use Rattle.std.proofs.Common.{◌≡◌, drop}
use Rattle.call_lines.specs.Reading.{each}
use Rattle.call_lines.specs.Parts.{target_in}
use Rattle.call_lines.proofs.ReadingLemmas.{onto}
use Rattle.call_lines.proofs.targets.read_each_target.Given as goal

-- what was read, and what is left, makes the whole
abbrev pub invariant-loop-item : goal.invariant-loop-item
invariant-loop-item l = onto l.all (each target_in (drop l.item-index l.item-items)) ≡ each target_in l.item-items
