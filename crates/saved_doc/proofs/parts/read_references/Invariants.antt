use Rattle.std.proofs.Common.{◌≡◌, drop}
use Rattle.saved_doc.specs.Reading.{each, ref_in}
use Rattle.saved_doc.proofs.ReadingLemmas.{onto}
use Rattle.saved_doc.proofs.parts.read_references.Given as goal

-- what was read, and what is left, makes the whole
abbrev pub invariant-loop-item : goal.invariant-loop-item
invariant-loop-item l = onto l.all (each ref_in (drop l.item-index l.item-items)) ≡ each ref_in l.item-items
