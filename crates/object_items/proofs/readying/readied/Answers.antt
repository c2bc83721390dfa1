use Rattle.std.proofs.Common.{◌≡◌, ◌+◌, List, ◌∷◌, ◌++◌, map, option_map, drop, ap, subst, sym, ◌∙◌, rules, arith}
use Rattle.std.specs.Option.{option_copied}
use Rattle.std.proofs.lemmas.Grind.{common_steps}
use Rattle.space_scope.specs.Spaces.{space_text}
use Rattle.doc_query.specs.Mapped.{cell_of}
use Rattle.call_model.specs.Plans as plans
use Rattle.call_words.specs.Product.{product_words}
use Rattle.object_items.specs.declared.placing.Turn.{Turn}
use Rattle.object_items.specs.Mapped.{turn_of, ready_of}
use Rattle.object_items.specs.Judging.{AreJudgeable}
use Rattle.object_items.proofs.Rows.{readied_on, judgeable_parts}
use Rattle.object_items.proofs.readying.readied.Goals as goal

pub loop-turn-preserved : goal.loop-turn-preserved
loop-turn-preserved c =
    let reg = c.args.reg.now in
    let space = space_text c.args.space.now in
    let all = c.as_slice-turn-items.result.now in
    let i = c.loop-turn.turn-index in
    let turn = c.turn-item.result in
    let rows = c.loop-turn.rest.now in
    let split : drop i all ≡ turn ∷ drop (i + 1) all = first_of (search rules, grind (arith, common_steps)) in
    let judgeable : AreJudgeable reg (map turn_of (turn ∷ drop (i + 1) all)) = subst (λ (turns : List Turn). AreJudgeable reg (map turn_of turns)) split c.loop-turn.invariant.judgeable in
    record {
      whole = readied_on reg space c.loop-turn.items c.push.new.self c.in_ok-ready_item.field-0 turn (drop (i + 1) all) rows c.rows_after-rest.result.now (option_copied c.first_row.result)
          (plans.readied product_words reg space (map turn_of all) (map (option_map cell_of) c.args.rows.now))
          (ap (λ (turns : List Turn). map ready_of c.loop-turn.items ++ plans.readied product_words reg space (map turn_of turns) (map (option_map cell_of) rows)) (sym split) ∙ c.loop-turn.invariant.whole)
          c.first_row.ensures c.in_ok-ready_item.ensures c.rows_after-rest.ensures c.in_ok-push.ensures.ok;
      judgeable = (judgeable_parts reg (turn_of turn) (map turn_of (drop (i + 1) all)) judgeable).1;
    }
