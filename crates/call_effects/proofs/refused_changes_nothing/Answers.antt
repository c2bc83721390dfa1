use Rattle.call_effects.proofs.Refusals.{refused_quiet, bulk_quiet, nothing_left}
use Rattle.call_effects.proofs.refused_changes_nothing.Goals as goal

pub returns-clause-call : goal.returns-clause-call
returns-clause-call g c = λ w reg call read own why e. refused_quiet w reg read own call why e

pub returns-clause-item : goal.returns-clause-item
returns-clause-item g c = λ w reg space objects overwrite time read own answers raw e r. (bulk_quiet w reg read own space objects overwrite time answers e).0 raw r

pub returns-clause-bulk : goal.returns-clause-bulk
returns-clause-bulk g c = λ w reg space objects overwrite time read own answers e r. (bulk_quiet w reg read own space objects overwrite time answers e).1 r

pub returns-clause-without_index : goal.returns-clause-without_index
returns-clause-without_index g c = λ w reg call read. nothing_left w reg read call
