use Rattle.std.proofs.Common.{rules}
use Rattle.turn_gate.proofs.Allowed.{may_wake}
use Rattle.turn_gate.proofs.steps.wake.Goals as goal

pub fetch_add-requires : goal.fetch_add-requires
fetch_add-requires g c = (search rules, search rules, may_wake g.T.Turned.opening g.T.Turned.entries c.args.table.now.key.value _ _ _ _ c.requires.idle.0 c.requires.idle.1 (search rules))
