use Rattle.upgrade_laws.proofs.Claims.{legal}
use Rattle.upgrade_laws.proofs.rollouts_are_legal.Goals as goal

pub returns : goal.returns
returns g c = λ r journal is conforms. legal r is journal conforms
