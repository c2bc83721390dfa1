use Rattle.std.proofs.Common.{◌≡◌, ◌++◌, map, drop}
use Rattle.space_scope.specs.Spaces.{space_text}
use Rattle.call_model.specs.Plans.{looked_raws}
use Rattle.object_answers.specs.Mapped.{look_of}
use Rattle.object_answers.proofs.looking.looked_raws.Given as goal

-- the raw ids so far, and those of the targets that are left
abbrev pub invariant-loop-look : goal.invariant-loop-look
invariant-loop-look l =
    l.raws ++ looked_raws l.reg (space_text l.space) (map look_of (drop l.look-index l.look-items))
    ≡ looked_raws l.reg (space_text l.space) (map look_of l.look-items)
