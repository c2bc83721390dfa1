use Rattle.race_claims.proofs.Laws.{unhindered_starts_end_as_done}
use Rattle.race_claims.proofs.unhindered_starts_end_as_done.Goals as goal

pub returns : goal.returns
returns g c = unhindered_starts_end_as_done
