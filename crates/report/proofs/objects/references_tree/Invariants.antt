use Rattle.std.proofs.Common.{◌≡◌, ◌++◌, map}
use Rattle.std.specs.Vec.Iter.{into_iter_items}
use Rattle.saved_doc.specs.Writing.{ref_js}
use Rattle.report.proofs.objects.references_tree.Given as goal

-- the trees so far, and those of the references that are left
abbrev pub invariant-loop-reference : goal.invariant-loop-reference
invariant-loop-reference l = l.trees ++ map ref_js (into_iter_items l.reference-iterator) ≡ map ref_js l.fn.references
