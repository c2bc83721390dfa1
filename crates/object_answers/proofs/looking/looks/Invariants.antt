use Rattle.std.proofs.Common.{◌≡◌, ◌++◌, map, drop}
use Rattle.call_model.specs.Steps.{looks}
use Rattle.object_answers.specs.Mapped.{look_of}
use Rattle.object_answers.proofs.looking.looks.Given as goal

-- the targets so far, and those that are left
abbrev pub invariant-loop-target : goal.invariant-loop-target
invariant-loop-target l = map look_of l.all ++ looks l.reg (drop l.target-index l.target-items) ≡ looks l.reg l.target-items
