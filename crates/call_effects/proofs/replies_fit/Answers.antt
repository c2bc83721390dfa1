use Rattle.call_effects.proofs.Replying.{served_fits, query_limits}
use Rattle.query_model.specs.Queries.{Query, select}
use Rattle.call_effects.proofs.replies_fit.Goals as goal

pub returns : goal.returns
returns g c = λ holds st ask a b. served_fits (λ (q : Query _). q.limit) (select holds) (query_limits holds) st ask a b
