use Rattle.std.proofs.Common.{◌≡◌, List, [], ◌∷◌, ◌++◌, map, ap, sym, ◌∙◌, rules}
use Rattle.std.specs.Vec.Iter.{into_iter_items}
use Rattle.space_scope.specs.Spaces.{space_text}
use Rattle.call_model.specs.Steps as steps
use Rattle.call_words.specs.Product.{product_words}
use Rattle.object_acts.specs.declared.acts.Act.{Act}
use Rattle.object_acts.specs.Mapped.{act_of}
use Rattle.object_items.specs.Mapped.{turn_of}
use Rattle.object_items.proofs.Placed.{turns_on}
use Rattle.object_items.proofs.placing.turns.Goals as goal

pub loop-act-preserved : goal.loop-act-preserved
loop-act-preserved c =
    let reg = c.args.reg.now in
    let space = space_text c.args.space.now in
    let more = into_iter_items c.next.new.self in
    let left : into_iter_items c.loop-act.act-iterator ≡ c.in-Some.act ∷ more = search rules in
    turns_on reg space c.loop-act.turns c.push.new.self c.in_ok-next_turn.field-0 c.loop-act.taken c.next_turn.new.taken c.in-Some.act more (steps.turns product_words reg space [] (map act_of c.args.acts))
    (ap (λ (acts : List Act). map turn_of c.loop-act.turns ++ steps.turns product_words reg space c.loop-act.taken (map act_of acts)) (sym left) ∙ c.loop-act.invariant)
    c.in_ok-next_turn.ensures.turn c.in_ok-next_turn.ensures.taken c.in_ok-push.ensures.ok
