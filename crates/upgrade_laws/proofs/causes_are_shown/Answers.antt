use Rattle.upgrade_laws.proofs.Claims.{causes}
use Rattle.upgrade_laws.proofs.causes_are_shown.Goals as goal

pub returns : goal.returns
returns g c = λ r journal e is conforms i past cause a h here m. causes r is journal e conforms i past cause a h here m
