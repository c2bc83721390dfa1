use Rattle.call_laws.proofs.Performing.{one_thread}
use Rattle.call_laws.proofs.performed_is_one_thread.Goals as goal

pub returns-clause-answer : goal.returns-clause-answer
returns-clause-answer g c = λ w reg own st call shows alias. (one_thread w reg own call st shows alias).answer

pub returns-clause-table : goal.returns-clause-table
returns-clause-table g c = λ w reg own st call shows alias. (one_thread w reg own call st shows alias).shows
