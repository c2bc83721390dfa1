use Rattle.store_core.proofs.Beginning.{opened_in_order}
use Rattle.store_core.proofs.engine.Engine.open.Goals as goal

pub invariant_of-result : goal.invariant_of-result
invariant_of-result c = opened_in_order c.args.indices c.args.aliases c.in-Ok.store c.in-Ok-in_order.pairs c.in-Ok.ensures.store c.in-Ok-in_order.ensures c.requires
