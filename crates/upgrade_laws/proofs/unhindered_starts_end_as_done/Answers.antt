use Rattle.upgrade_laws.proofs.Claims.{goes_well}
use Rattle.upgrade_laws.proofs.unhindered_starts_end_as_done.Goals as goal

pub returns : goal.returns
returns g c = λ r before after first i tag past is conforms b. goes_well r is before after first i tag b.past past conforms b.own b.there b.begins b.unhindered
