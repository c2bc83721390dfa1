use Rattle.space_scope.specs.Spaces.{space_text}
use Rattle.call_model.specs.Steps.{look_words}
use Rattle.call_model.specs.Steps.Work.{Following}
use Rattle.object_ops.specs.Mapped.{progress_of}
use Rattle.object_ops.proofs.Spaces.{refused_by}
use Rattle.object_ops.proofs.following.resolve_in.Goals as goal

pub returns-in-Some : goal.returns-in-Some
returns-in-Some c =
    refused_by c.args.reg.now (look_words c.args.reg.now c.args.target.now) c.in-Some.refuse (Following (space_text c.args.space) c.args.target.now) (progress_of c.refused.result) c.in-Some.ensures (c.refused.ensures c.args.reg.now)
