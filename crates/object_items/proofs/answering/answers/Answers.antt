use Rattle.std.proofs.Common.{◌≡◌, ◌+◌, List, ◌∷◌, ◌++◌, map, drop, ap, sym, ◌∙◌, rules, arith}
use Rattle.std.proofs.lemmas.Grind.{common_steps}
use Rattle.doc_table.specs.Tables.{item_of}
use Rattle.call_model.specs.Plans as plans
use Rattle.call_words.specs.Told.{answer_with_token}
use Rattle.object_items.specs.declared.readying.Ready.{Ready}
use Rattle.object_items.specs.Mapped.{ready_of}
use Rattle.object_items.proofs.Results.{answers_on}
use Rattle.object_items.proofs.answering.answers.Goals as goal

pub loop-item-preserved : goal.loop-item-preserved
loop-item-preserved c =
    let reg = c.args.reg.now in
    let all = c.as_slice-item-items.result.now in
    let i = c.loop-item.item-index in
    let item = c.item-item.result in
    let done = c.loop-item.answers in
    let results = c.loop-item.rest.now in
    let split : drop i all ≡ item ∷ drop (i + 1) all = first_of (search rules, grind (arith, common_steps)) in
    answers_on reg done c.add_answer.new.answers item (drop (i + 1) all) results c.in_ok-rest.rest.now (map answer_with_token (plans.answers reg (map ready_of all) (map item_of c.args.results.now)))
    (ap (λ (items : List Ready). done ++ map answer_with_token (plans.answers reg (map ready_of items) (map item_of results))) (sym split) ∙ c.loop-item.invariant)
    c.in_ok-rest.ensures.more c.in_ok-rest.ensures.rest
