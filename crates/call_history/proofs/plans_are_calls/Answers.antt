use Rattle.call_history.proofs.Laws.{plans_are}
use Rattle.call_history.proofs.plans_are_calls.Goals as goal

pub returns : goal.returns
returns g c = λ w settings opening numbered. plans_are w settings opening numbered
