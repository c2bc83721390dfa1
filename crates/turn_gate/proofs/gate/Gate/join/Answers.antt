use Rattle.std.proofs.Common.{ap, ap₂, ◌∙◌}
use Rattle.turn_gate.specs.Passes.{PassState, join_of, has_pass, own_of}
use Rattle.turn_gate.proofs.Callers.{has_pass-join_of, own_of-join_of}
use Rattle.turn_gate.proofs.gate.Gate.join.Goals as goal

pub returns-clause-names : goal.returns-clause-names
returns-clause-names g c n =
    let joined = c.join_passes.ensures.joined ∙ ap₂ join_of c.into.view_is c.spent.view_is in
    ap (λ (p : PassState g.row.T.Denot g.row.T-Entry.Denot). has_pass p n) joined ∙ has_pass-join_of c.args.into.now c.args.spent n

pub returns-clause-owns : goal.returns-clause-owns
returns-clause-owns g c n =
    let joined = c.join_passes.ensures.joined ∙ ap₂ join_of c.into.view_is c.spent.view_is in
    ap (λ (p : PassState g.row.T.Denot g.row.T-Entry.Denot). own_of p n) joined ∙ own_of-join_of c.args.into.now c.args.spent n
