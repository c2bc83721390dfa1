use Rattle.call_laws.proofs.Moments.{one_moment}
use Rattle.call_laws.proofs.one_moment_is_one_thread.Goals as goal

pub returns-clause-answer : goal.returns-clause-answer
returns-clause-answer g c = λ w reg own call. (one_moment w reg own call).answer

pub returns-clause-table : goal.returns-clause-table
returns-clause-table g c = λ w reg own call. (one_moment w reg own call).table
