use Rattle.std.proofs.Common.{◌≡◌, ◌++◌, map, drop}
use Rattle.call_model.specs.Plans.{blocked_answers}
use Rattle.call_words.specs.Told.{answer_with_token}
use Rattle.object_items.specs.Mapped.{ready_of}
use Rattle.object_items.proofs.answering.blocked_answers.Given as goal

-- the answers so far, and those of the items that are left, make the whole
abbrev pub invariant-loop-item : goal.invariant-loop-item
invariant-loop-item l = l.answers ++ map answer_with_token (blocked_answers (map ready_of (drop l.item-index l.item-items))) ≡ map answer_with_token (blocked_answers (map ready_of l.item-items))
