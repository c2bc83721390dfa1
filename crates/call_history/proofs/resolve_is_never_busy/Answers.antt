use Rattle.call_laws.proofs.Resolving.{resolve_is_step}
use Rattle.call_history.proofs.Lasting.{aliases_stay}
use Rattle.call_history.proofs.Laws.{not_busy}
use Rattle.call_history.proofs.resolve_is_never_busy.Goals as goal

pub returns-clause-one_step : goal.returns-clause-one_step
returns-clause-one_step g c = λ w settings reg space q target gs later seen now reach e f a. resolve_is_step w reg space q seen now target a (aliases_stay settings gs later (w.version_alias reg.version) seen now reach e f)

pub returns-clause-not_busy : goal.returns-clause-not_busy
returns-clause-not_busy g c = λ w reg space q now a b. not_busy w reg space q now a b
