use Rattle.std.proofs.Common.{◌≡◌, ◌++◌, map}
use Rattle.std.specs.Vec.Iter.{into_iter_items}
use Rattle.report.specs.Answers.{object_js}
use Rattle.report.proofs.answers.objects_tree.Given as goal

-- the trees so far, and those of the objects that are left
abbrev pub invariant-loop-shown : goal.invariant-loop-shown
invariant-loop-shown l = l.trees ++ map object_js (into_iter_items l.shown-iterator) ≡ map object_js l.fn.objects
