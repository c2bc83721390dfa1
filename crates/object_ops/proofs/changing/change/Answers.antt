use Rattle.std.proofs.Common.{[], map}
use Rattle.call_model.specs.Steps.{turns}
use Rattle.call_model.specs.Steps.Work.{Writing}
use Rattle.call_words.specs.Product.{product_words}
use Rattle.object_acts.specs.Mapped.{act_of}
use Rattle.object_ops.specs.Mapped.{progress_of}
use Rattle.object_ops.proofs.Spaces.{no_space, refused_for_space}
use Rattle.object_ops.proofs.changing.change.Goals as goal

pub returns-in-None : goal.returns-in-None
returns-in-None c =
    refused_for_space c.args.reg.now c.args.space.now (Writing c.args.alone c.args.space.now (turns product_words c.args.reg.now c.args.space.now [] (map act_of c.args.acts))) (progress_of c.refused.result)
    (no_space c.in_ok-space.field-0 c.as_str.result.now c.args.space.now c.in_ok-space.ensures c.in-None.is c.as_str.ensures) (c.refused.ensures c.args.reg.now)
