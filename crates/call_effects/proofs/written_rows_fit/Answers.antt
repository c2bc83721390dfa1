use Rattle.call_effects.proofs.Fitting.{call_fits}
use Rattle.call_effects.proofs.written_rows_fit.Goals as goal

pub returns : goal.returns
returns g c = λ w reg call read own fit. call_fits w reg read own fit call
