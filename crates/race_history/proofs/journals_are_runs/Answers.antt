use Rattle.race_history.proofs.Laws.{journals_are_runs}
use Rattle.race_history.proofs.journals_are_runs.Goals as goal

pub returns : goal.returns
returns g c = journals_are_runs
