use Rattle.upgrade_laws.proofs.Claims.{raced}
use Rattle.upgrade_laws.proofs.rollouts_race.Goals as goal

pub returns : goal.returns
returns g c = λ r events is. raced r is events
