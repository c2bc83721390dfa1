use Rattle.std.proofs.Common.{ap, map, ◌∙◌}
use Rattle.object_acts.specs.Mapped.{act_of}
use Rattle.object_ops.proofs.Creates.{made_creates}
use Rattle.object_ops.proofs.making.creates_of.Goals as goal

pub returns : goal.returns
returns c = ap (λ acts. map act_of acts) c.in_ok-acts.ensures ∙ made_creates c.args.overwrite c.args.at.now c.args.objects.now
