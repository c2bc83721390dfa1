use Rattle.std.proofs.Common.{◌≡◌, drop}
use Rattle.call_lines.specs.Reading.{each}
use Rattle.call_lines.specs.Parts.{text_in}
use Rattle.call_lines.proofs.ReadingLemmas.{onto}
use Rattle.call_lines.proofs.parts.read_texts.Given as goal

-- what was read, and what is left, makes the whole
abbrev pub invariant-loop-item : goal.invariant-loop-item
invariant-loop-item l = onto l.all (each text_in (drop l.item-index l.item-items)) ≡ each text_in l.item-items
