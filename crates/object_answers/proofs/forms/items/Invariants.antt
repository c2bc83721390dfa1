use Rattle.std.proofs.Common.{◌≡◌, ◌++◌, map}
use Rattle.std.specs.Vec.Iter.{into_iter_items}
use Rattle.object_answers.specs.Forms.{item_of}
use Rattle.object_answers.proofs.forms.items.Given as goal

-- the items so far, and those of the answers that are left
abbrev pub invariant-loop-answer : goal.invariant-loop-answer
invariant-loop-answer l = l.ones ++ map item_of (into_iter_items l.answer-iterator) ≡ map item_of l.fn.answers
