use Rattle.race_follow.proofs.Refusals.{still}
use Rattle.race_follow.proofs.refused_requests_change_nothing.Goals as goal

pub returns : goal.returns
returns g c = still
