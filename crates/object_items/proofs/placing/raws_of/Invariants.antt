use Rattle.std.proofs.Common.{◌≡◌, ◌++◌, map, drop}
use Rattle.call_model.specs.Plans.{raws_of}
use Rattle.object_items.specs.Mapped.{turn_of}
use Rattle.object_items.proofs.placing.raws_of.Given as goal

-- the raw ids so far, and those of the items that are left, make the whole
abbrev pub invariant-loop-turn : goal.invariant-loop-turn
invariant-loop-turn l = l.raws ++ raws_of (map turn_of (drop l.turn-index l.turn-items)) ≡ raws_of (map turn_of l.turn-items)
