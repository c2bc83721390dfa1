use Rattle.race_bound.proofs.Laws.{starts_are_short}
use Rattle.race_bound.proofs.starts_are_short.Goals as goal

pub returns : goal.returns
returns g c = starts_are_short
