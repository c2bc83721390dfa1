use Rattle.std.proofs.Common.{◌≡◌, ◌+◌, drop}
use Rattle.std.specs.List.{position_or_len}
use Rattle.base_model.specs.Keyed.{text_lt}
use Rattle.index_store.proofs.held.seat.Given as goal

-- not so far
abbrev pub invariant-loop-i : goal.invariant-loop-i
invariant-loop-i l = l.i + position_or_len (λ held. text_lt l.name held.name) (drop l.i l.indices) ≡ position_or_len (λ held. text_lt l.name held.name) l.indices
