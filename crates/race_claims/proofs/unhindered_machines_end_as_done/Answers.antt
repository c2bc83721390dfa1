use Rattle.race_claims.proofs.Laws.{unhindered_machines_end_as_done}
use Rattle.race_claims.proofs.unhindered_machines_end_as_done.Goals as goal

pub returns : goal.returns
returns g c = unhindered_machines_end_as_done
