use Rattle.call_model.specs.Steps.{looks}
use Rattle.call_model.specs.Steps.Work.{Looking}
use Rattle.object_ops.specs.Mapped.{progress_of}
use Rattle.object_ops.proofs.Spaces.{no_space, refused_for_space}
use Rattle.object_ops.proofs.looking.look_up.Goals as goal

pub returns-in-None : goal.returns-in-None
returns-in-None c =
    refused_for_space c.args.reg.now c.args.space.now (Looking c.args.alone c.args.space.now (looks c.args.reg.now c.args.targets.now)) (progress_of c.refused.result)
    (no_space c.in_ok-space.field-0 c.as_str.result.now c.args.space.now c.in_ok-space.ensures c.in-None.is c.as_str.ensures) (c.refused.ensures c.args.reg.now)
