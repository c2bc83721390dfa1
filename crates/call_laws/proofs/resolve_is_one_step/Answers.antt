use Rattle.call_laws.proofs.Resolving.{resolve_is_step}
use Rattle.call_laws.proofs.resolve_is_one_step.Goals as goal

pub returns : goal.returns
returns g c = λ w reg space q goal seen now e k. resolve_is_step w reg space q seen now goal e k
