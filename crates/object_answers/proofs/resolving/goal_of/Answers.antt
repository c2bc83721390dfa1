use Rattle.std.proofs.Common.{rules}
use Rattle.call_model.specs.Steps.{alias_target}
use Rattle.object_answers.proofs.resolving.goal_of.Goals as goal

pub returns-in-None : goal.returns-in-None
unfolding alias_target
returns-in-None c = search rules
