use Rattle.upgrade_laws.proofs.Claims.{short}
use Rattle.upgrade_laws.proofs.starts_are_short.Goals as goal

pub returns : goal.returns
returns g c = λ r journal is conforms. short r is journal conforms
