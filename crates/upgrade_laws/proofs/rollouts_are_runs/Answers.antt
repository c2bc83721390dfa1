use Rattle.upgrade_laws.proofs.Claims.{is_run}
use Rattle.upgrade_laws.proofs.rollouts_are_runs.Goals as goal

pub returns : goal.returns
returns g c = λ r journal is conforms. is_run r is journal conforms
