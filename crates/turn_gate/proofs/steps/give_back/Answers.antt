use Rattle.std.proofs.Common.{rules}
use Rattle.turn_gate.proofs.Allowed.{may_pass}
use Rattle.turn_gate.proofs.steps.give_back.Goals as goal

pub fetch_add-requires : goal.fetch_add-requires
fetch_add-requires g c = let h = c.requires.served.1 in
    (search rules, search rules, may_pass g.T.Turned.opening g.T.Turned.entries c.args.table.now.key.value _ _ _ c.requires.served.0 h.0 h.1 h.2 h.3)
