-- What a plan needs so that it can be stepped by hand.
use Rattle.document_model.specs.Documents.{Doc}
use Rattle.document_model.specs.Registries.{Registry}
use Rattle.race_model.specs.Stores.{Reply}
use Rattle.so_js.specs.declared.js.Js.{Js}
use Rattle.transform_ops.specs.declared.op.Op.{Op}
use Rattle.object_ops.specs.Stages.{Progress, CanGoOn, went_on}

-- it can read the reply to its request, and whatever that was, the next one
pub record ReadsTwo (reg : Registry Op) (plan : Progress) : Type 0 where
  pub first : CanGoOn reg plan.stage
  pub next : (reply : Reply (Doc Js)) → CanGoOn reg (went_on reg plan.stage reply).stage
