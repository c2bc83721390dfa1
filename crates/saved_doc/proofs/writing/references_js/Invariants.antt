use Rattle.std.proofs.Common.{◌≡◌, map, take}
use Rattle.saved_doc.specs.Writing.{ref_js}
use Rattle.saved_doc.proofs.writing.references_js.Given as goal

abbrev pub invariant-loop-reference : goal.invariant-loop-reference
invariant-loop-reference l = l.all ≡ map ref_js (take l.reference-index l.reference-items)
