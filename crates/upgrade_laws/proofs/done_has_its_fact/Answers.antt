use Rattle.upgrade_laws.proofs.Claims.{done_named}
use Rattle.upgrade_laws.proofs.done_has_its_fact.Goals as goal

pub returns : goal.returns
returns g c = λ r journal is conforms i past tag target here ended. done_named r is journal conforms i past tag target here ended
