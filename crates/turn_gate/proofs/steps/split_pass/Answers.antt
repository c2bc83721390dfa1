use Rattle.std.proofs.Common.{rules, ◌≡◌, [], Some, refl, ap, ◌∙◌}
use Rattle.turn_gate.specs.Views.{parent, child}
use Rattle.turn_gate.specs.Plays.{SeatState, parent_view, child_view}
use Rattle.turn_gate.proofs.Allowed.{may_split}
use Rattle.turn_gate.proofs.steps.split_pass.Goals as goal

pub split_seat-requires : goal.split_seat-requires
split_seat-requires g c =
    let r = c.requires.idle in
    let view : c.args.seat.now.me.0 ≡ Some r.0 = ap (λ (m : SeatState g.row.T.Denot g.row.T.Denot g.row.T-Entry.Denot). m.0) r.1.0 in
    (search rules, search rules, may_split g.T.Turned.opening g.T.Turned.entries c.args.table.now.key.value _ _ r.0 view r.1.1 r.1.2 r.2 r.3)

pub returns-clause-idle : goal.returns-clause-idle
returns-clause-idle g c =
    let r = c.requires.idle in
    let D : Type 0 = SeatState g.row.T.Denot g.row.T.Denot g.row.T-Entry.Denot in
    let left : D → D = λ m. (parent_view m.0, m.1) in
    (parent r.0, (c.split_seat.ensures.2 ∙ ap left r.1.0, r.1.1, r.1.2))

pub returns-clause-new : goal.returns-clause-new
returns-clause-new g c =
    let r = c.requires.idle in
    let D : Type 0 = SeatState g.row.T.Denot g.row.T.Denot g.row.T-Entry.Denot in
    let right : D → D = λ m. (child_view m.0, []) in
    (child r.0, (c.split_seat.ensures.4 ∙ ap right r.1.0, refl, refl))
