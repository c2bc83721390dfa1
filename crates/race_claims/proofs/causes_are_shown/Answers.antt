use Rattle.race_claims.proofs.Laws.{causes_are_shown}
use Rattle.race_claims.proofs.causes_are_shown.Goals as goal

pub returns : goal.returns
returns g c = causes_are_shown
