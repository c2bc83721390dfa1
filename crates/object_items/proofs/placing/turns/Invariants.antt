use Rattle.std.proofs.Common.{◌≡◌, [], ◌++◌, map}
use Rattle.std.specs.Vec.Iter.{into_iter_items}
use Rattle.space_scope.specs.Spaces.{space_text}
use Rattle.call_model.specs.Steps.{turns}
use Rattle.call_words.specs.Product.{product_words}
use Rattle.object_acts.specs.Mapped.{act_of}
use Rattle.object_items.specs.Mapped.{turn_of}
use Rattle.object_items.proofs.placing.turns.Given as goal

-- the items so far, and those of the acts that are left, make the whole
abbrev pub invariant-loop-act : goal.invariant-loop-act
invariant-loop-act l =
    map turn_of l.turns ++ turns product_words l.reg (space_text l.space) l.taken (map act_of (into_iter_items l.act-iterator))
    ≡ turns product_words l.reg (space_text l.space) [] (map act_of l.fn.acts)
