use Rattle.std.proofs.Common.{◌≡◌, drop}
use Rattle.call_lines.specs.Reading.{each}
use Rattle.call_lines.specs.Parts.{reference_in}
use Rattle.call_lines.proofs.ReadingLemmas.{onto}
use Rattle.call_lines.proofs.parts.read_references.Given as goal

-- what was read, and what is left, makes the whole
abbrev pub invariant-loop-item : goal.invariant-loop-item
invariant-loop-item l = onto l.all (each reference_in (drop l.item-index l.item-items)) ≡ each reference_in l.item-items
