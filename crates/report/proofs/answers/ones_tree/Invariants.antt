use Rattle.std.proofs.Common.{◌≡◌, ◌++◌, map}
use Rattle.std.specs.Vec.Iter.{into_iter_items}
use Rattle.report.specs.Answers.{one_js}
use Rattle.report.proofs.answers.ones_tree.Given as goal

-- the trees so far, and those of the ones that are left
abbrev pub invariant-loop-one : goal.invariant-loop-one
invariant-loop-one l = l.trees ++ map one_js (into_iter_items l.one-iterator) ≡ map one_js l.fn.ones
