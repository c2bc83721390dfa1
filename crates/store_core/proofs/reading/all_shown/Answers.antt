use Rattle.store_core.proofs.Taking.{shown_on}
use Rattle.store_core.proofs.reading.all_shown.Goals as goal

pub loop-at-preserved : goal.loop-at-preserved
loop-at-preserved c = shown_on c.args.indices.now.indices c.loop-at.at _ _ _ c.loop-at.invariant c.shown.ensures c.in_ok-push_shown.ensures
