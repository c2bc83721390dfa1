use Rattle.std.proofs.Common.{◌≡◌, map, drop}
use Rattle.call_model.specs.Plans.{all_blind}
use Rattle.object_items.specs.Mapped.{turn_of}
use Rattle.object_items.proofs.placing.all_blind.Given as goal

-- the items that are left decide
abbrev pub invariant-loop-turn : goal.invariant-loop-turn
invariant-loop-turn l = all_blind (map turn_of (drop l.turn-index l.turn-items)) ≡ all_blind (map turn_of l.turn-items)
