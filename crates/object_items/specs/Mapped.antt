-- What the items of the code are in the definitions.
use Rattle.so_js.specs.declared.js.Js.{Js}
use Rattle.call_model.specs.Steps as steps
use Rattle.call_model.specs.Steps.Turn.{Denied, Goes}
use Rattle.call_model.specs.Plans as plans
use Rattle.call_model.specs.Plans.Ready.{Settled, Sends}
use Rattle.object_acts.specs.Mapped.{act_of, deed_of}
use Rattle.object_items.specs.declared.placing.Turn.{Turn}
use Rattle.object_items.specs.declared.placing.Turn.TheVariants as turn
use Rattle.object_items.specs.declared.readying.Ready.{Ready}
use Rattle.object_items.specs.declared.readying.Ready.TheVariants as ready

abbrev pub turn_of : Turn → steps.Turn Js
turn_of (turn.Denied refusal) = Denied refusal
turn_of (turn.Goes raw act) = Goes raw (act_of act)

abbrev pub ready_of : Ready → plans.Ready Js
ready_of (ready.Settled refusal) = Settled refusal
ready_of (ready.Sends raw act deed) = Sends raw (act_of act) (deed_of deed)
