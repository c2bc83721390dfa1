use Rattle.std.proofs.Common.{rules, ◌≡◌, [], Some, ap, ap₂, ◌∙◌}
use Rattle.turn_gate.specs.Views.{united, recalled}
use Rattle.turn_gate.specs.Plays.{SeatState, united_views}
use Rattle.turn_gate.proofs.Allowed.{may_join, may_recall}
use Rattle.turn_gate.proofs.Taken.{joins, joins_saw, joins_heard}
use Rattle.turn_gate.proofs.steps.join_passes.Goals as goal

pub join_seat-requires : goal.join_seat-requires
join_seat-requires g c =
    let r = c.requires.idle in
    let s = c.requires.spent in
    let view : c.args.seat.now.me.0 ≡ Some r.0 = ap (λ (m : SeatState g.row.T.Denot g.row.T.Denot g.row.T-Entry.Denot). m.0) r.1.0 in
    let other : c.args.spent.me.0 ≡ Some s.0 = ap (λ (m : SeatState g.row.T.Denot g.row.T.Denot g.row.T-Entry.Denot). m.0) s.1.0 in
    let bare : c.args.spent.me.1 ≡ [] = ap (λ (m : SeatState g.row.T.Denot g.row.T.Denot g.row.T-Entry.Denot). m.1) s.1.0 in
    (search rules, search rules, bare, search rules, may_join g.T.Turned.opening g.T.Turned.entries c.args.table.now.key.value _ _ _ _ r.0 s.0 view other r.1.1 r.1.2 s.1.1 s.1.2)

pub load-requires : goal.load-requires
load-requires g c =
    let r = c.requires.idle in
    let s = c.requires.spent in
    let D : Type 0 = SeatState g.row.T.Denot g.row.T.Denot g.row.T-Entry.Denot in
    let both : D → D → D = λ m n. (united_views m.0 n.0, m.1) in
    let state = c.join_seat.ensures.2 ∙ ap₂ both r.1.0 s.1.0 in
    (search rules, search rules, may_recall g.T.Turned.opening g.T.Turned.entries c.args.table.now.key.value _ _ _ (united r.0 s.0) (state, r.1.1, r.1.2))

pub returns-clause-idle : goal.returns-clause-idle
returns-clause-idle g c =
    let r = c.requires.idle in
    let s = c.requires.spent in
    let D : Type 0 = SeatState g.row.T.Denot g.row.T.Denot g.row.T-Entry.Denot in
    let both : D → D → D = λ m n. (united_views m.0 n.0, m.1) in
    let state = c.join_seat.ensures.2 ∙ ap₂ both r.1.0 s.1.0 in
    let told = c.load.ensures.2 (united r.0 s.0) (state, r.1.1, r.1.2) in
    (recalled (united r.0 s.0), (told.0, r.1.1, r.1.2))

pub returns-clause-joined : goal.returns-clause-joined
returns-clause-joined g c =
    let r = c.requires.idle in
    let s = c.requires.spent in
    let D : Type 0 = SeatState g.row.T.Denot g.row.T.Denot g.row.T-Entry.Denot in
    let both : D → D → D = λ m n. (united_views m.0 n.0, m.1) in
    let view : D → _ = λ m. m.0 in
    let state = c.join_seat.ensures.2 ∙ ap₂ both r.1.0 s.1.0 in
    let told = c.load.ensures.2 (united r.0 s.0) (state, r.1.1, r.1.2) in
    joins _ _ _ _ _ _ r.0 s.0 (ap view r.1.0) (ap view s.1.0) (ap view told.0) (search rules)

pub returns-clause-saw : goal.returns-clause-saw
returns-clause-saw g c =
    let r = c.requires.idle in
    let s = c.requires.spent in
    let D : Type 0 = SeatState g.row.T.Denot g.row.T.Denot g.row.T-Entry.Denot in
    let both : D → D → D = λ m n. (united_views m.0 n.0, m.1) in
    let view : D → _ = λ m. m.0 in
    let state = c.join_seat.ensures.2 ∙ ap₂ both r.1.0 s.1.0 in
    let told = c.load.ensures.2 (united r.0 s.0) (state, r.1.1, r.1.2) in
    joins_saw _ _ c.args.spent.table_id _ _ _ r.0 s.0 (ap view r.1.0) (ap view s.1.0) (ap view told.0) told.1

pub returns-clause-heard : goal.returns-clause-heard
returns-clause-heard g c =
    let r = c.requires.idle in
    let s = c.requires.spent in
    let D : Type 0 = SeatState g.row.T.Denot g.row.T.Denot g.row.T-Entry.Denot in
    let both : D → D → D = λ m n. (united_views m.0 n.0, m.1) in
    let view : D → _ = λ m. m.0 in
    let state = c.join_seat.ensures.2 ∙ ap₂ both r.1.0 s.1.0 in
    let told = c.load.ensures.2 (united r.0 s.0) (state, r.1.1, r.1.2) in
    joins_heard c.args.seat.now.table_id _ _ _ _ _ r.0 s.0 (ap view r.1.0) (ap view s.1.0) (ap view told.0) told.2
