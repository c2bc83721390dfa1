use Rattle.std.proofs.Common.{◌≡◌, ◌++◌, map, option_map, drop}
use Rattle.space_scope.specs.Spaces.{space_text}
use Rattle.doc_query.specs.Mapped.{cell_of}
use Rattle.call_model.specs.Plans.{readied}
use Rattle.call_words.specs.Product.{product_words}
use Rattle.object_items.specs.Mapped.{turn_of, ready_of}
use Rattle.object_items.specs.Judging.{AreJudgeable}
use Rattle.object_items.proofs.readying.readied.Given as goal

-- the items so far, and those that are left by the rows that are left, make the whole
abbrev pub invariant-loop-turn : goal.invariant-loop-turn
invariant-loop-turn l = record {
  whole : map ready_of l.items ++ readied product_words l.reg (space_text l.space) (map turn_of (drop l.turn-index l.turn-items)) (map (option_map cell_of) l.rest)
      ≡ readied product_words l.reg (space_text l.space) (map turn_of l.turn-items) (map (option_map cell_of) l.fn.rows);
  judgeable : AreJudgeable l.reg (map turn_of (drop l.turn-index l.turn-items));
}
