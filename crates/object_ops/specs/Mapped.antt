-- What plans of the code are in the definitions.
use Rattle.std.specs.Prelude.{map, option_map}
use Rattle.space_scope.specs.Spaces.{space_text}
use Rattle.store_words.specs.Words.{request_of}
use Rattle.object_answers.specs.Mapped.{look_of}
use Rattle.object_items.specs.Mapped.{turn_of, ready_of}
use Rattle.object_ops.specs.Stages as model
use Rattle.object_ops.specs.Stages.{Progress}
use Rattle.object_ops.specs.Stages.Stage.{Known, Reads, Writes, Looks, Searches, Follows, Meets, Ended}
use Rattle.object_ops.specs.declared.plan.Plan.{Plan}
use Rattle.object_ops.specs.declared.stage.Stage.{Stage}
use Rattle.object_ops.specs.declared.stage.Stage.TheVariants as stage

abbrev pub stage_of : Stage → model.Stage
stage_of (stage.Known answer) = Known answer
stage_of (stage.Reading alone space turns) = Reads alone (space_text space) (map turn_of turns)
stage_of (stage.Writing alone items) = Writes alone (map ready_of items)
stage_of (stage.Looking alone space looks) = Looks alone (space_text space) (map look_of looks)
stage_of (stage.Searching page per_page) = Searches page per_page
stage_of (stage.Following space target) = Follows (space_text space) target
stage_of (stage.Meeting space target seen) = Meets (space_text space) target seen
stage_of (stage.Ended answer) = Ended answer

abbrev pub progress_of : Plan → Progress
progress_of plan = record { ask = option_map request_of plan.request; stage = stage_of plan.stage }
