use Rattle.std.proofs.Common.{map}
use Rattle.call_model.specs.Calls.Act.{Share}
use Rattle.object_acts.specs.Mapped.{act_of}
use Rattle.object_ops.specs.Mapped.{progress_of}
use Rattle.object_ops.proofs.Spaces.{change_refused, share_begun}
use Rattle.object_ops.proofs.changing.share.Goals as goal

pub returns-then-has_bad_space : goal.returns-then-has_bad_space
returns-then-has_bad_space c =
    change_refused c.args.reg.now c.as_str.result.now c.args.space.now (Share c.args.target.now c.args.add.now c.args.remove.now c.args.at.now) (progress_of c.refused.result) c.has_bad_space.result
    (c.has_bad_space.ensures c.args.target.now c.args.at.now) c.if-has_bad_space.true c.as_str.ensures (c.refused.ensures c.args.reg.now)

pub returns : goal.returns
returns c =
    share_begun c.args.reg.now c.change.result c.as_str.result.now c.args.space.now c.args.target.now c.args.add.now c.args.remove.now c.args.at.now (map act_of c.in_ok-acts.acts) c.has_bad_space.result
    (c.has_bad_space.ensures c.args.target.now c.args.at.now) c.if-has_bad_space.false c.as_str.ensures c.in_ok-acts.ensures c.change.ensures
