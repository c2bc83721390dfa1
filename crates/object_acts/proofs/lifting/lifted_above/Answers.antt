use Rattle.object_acts.proofs.Lifts.{lift_gives}
use Rattle.object_acts.proofs.lifting.lifted_above.Goals as goal

pub returns-clause-value : goal.returns-clause-value
returns-clause-value c = lift_gives _ _ _ _ _ c.in_ok-lifted.ensures.value c.in-Attributes.is c.requires.stamp
