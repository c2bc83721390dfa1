use Rattle.call_history.proofs.Laws.{runs_legal}
use Rattle.call_history.proofs.runs_are_legal.Goals as goal

pub returns : goal.returns
returns g c = λ w settings sets version_in current opening instances scripts journal last in_sets versions numbered fresh run conforms.
    runs_legal w settings sets version_in current opening instances scripts journal last in_sets versions numbered fresh run conforms
