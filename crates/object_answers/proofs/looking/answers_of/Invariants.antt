use Rattle.std.proofs.Common.{◌≡◌, ◌++◌, map, drop}
use Rattle.space_scope.specs.Spaces.{space_text}
use Rattle.call_model.specs.Plans.{looked}
use Rattle.call_words.specs.Told.{answer_with_token}
use Rattle.object_answers.specs.Mapped.{look_of, found_of}
use Rattle.object_answers.proofs.looking.answers_of.Given as goal

-- the answers so far, and those to the targets that are left, from the rows that are left
abbrev pub invariant-loop-look : goal.invariant-loop-look
invariant-loop-look l =
    l.answers ++ map answer_with_token (looked l.reg (space_text l.space) (map look_of (drop l.look-index l.look-items)) (found_of l.rest))
    ≡ map answer_with_token (looked l.reg (space_text l.space) (map look_of l.look-items) (found_of l.rows))
