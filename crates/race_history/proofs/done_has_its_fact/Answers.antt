use Rattle.race_history.proofs.Laws.{done_has_its_fact}
use Rattle.race_history.proofs.done_has_its_fact.Goals as goal

pub returns : goal.returns
returns g c = done_has_its_fact
