use Rattle.std.proofs.Common.{◌≡◌, List, Result, Ok, Err, Option, Some, None, IfOk, map, ap, sym, ◌∙◌, subst}
use Rattle.std.specs.Option.{IfSome}
use Rattle.race_model.specs.Stores.{Refusal, Acted, act_all, acted_answer}
use Rattle.race_model.specs.Stores as stores
use Rattle.race_model.specs.Stores.Acted.{Now, Stuck}
use Rattle.base_model.specs.Keyed.{Text}
use Rattle.document_model.specs.Documents.{Doc}
use Rattle.so_js.specs.declared.js.Js.{Js}
use Rattle.alias_table.specs.Plans.{action_of, refusal_of, acted_on, bare_store, names_after}
use Rattle.alias_table.specs.declared.pair.Pair.{Pair}
use Rattle.alias_table.specs.declared.action.Action.{Action}
use Rattle.index_store.specs.Indices.{names_of}
use Rattle.store_words.specs.Serving.{Store}
use Rattle.store_words.specs.Words.{reply_of}
use Rattle.store_words.specs.declared.reply.Reply.{Reply}
use Rattle.store_core.specs.Engines.{store_of, answer_of, IsRefusal}
use Rattle.store_core.proofs.Forgetting.{planned_done, planned_stuck}
use Rattle.store_core.proofs.aliasing.change.Goals as goal

-- what the plan says, over the names that the store gives
abbrev Done : Store → List Pair → List Action → List Text → List Pair → List Text → Type 0
Done indices pairs actions names left removed = acted_on names pairs actions ≡ Now (bare_store (names_after names removed) left)

pub take_out-requires : goal.take_out-requires
take_out-requires c =
    let p = c.in-Ok-plan.planned in
    let d = subst (λ (ns : List Text). Done c.args.indices.now c.args.aliases.now c.args.actions.now ns p.aliases p.removed) c.in-Ok.ensures.all c.in-Ok-plan.ensures.done in
    (planned_done c.args.indices.now c.args.aliases.now p.aliases c.args.actions.now p.removed d c.in-Ok-plan.ensures.removed).0

pub returns-in-Ok-plan-clause-ok : goal.returns-in-Ok-plan-clause-ok
returns-in-Ok-plan-clause-ok c =
    let p = c.in-Ok-plan.planned in
    let st = store_of c.args.indices.now c.args.aliases.now in
    let d = subst (λ (ns : List Text). Done c.args.indices.now c.args.aliases.now c.args.actions.now ns p.aliases p.removed) c.in-Ok.ensures.all c.in-Ok-plan.ensures.done in
    let e = (planned_done c.args.indices.now c.args.aliases.now p.aliases c.args.actions.now p.removed d c.in-Ok-plan.ensures.removed).1 in
    ap (λ (x : Store). answer_of x p.aliases stores.Reply.Done) c.take_out.ensures ∙ ap (λ (a : Acted (Doc Js)). acted_answer st a) (sym e)

-- a refused plan is a refused request
refused_reply : (indices : Store) (pairs : List Pair) (actions : List Action) (names : List Text) (o : Option Refusal) (reply : Reply) →
    names ≡ names_of indices.indices → IfSome o (λ why. acted_on names pairs actions ≡ Stuck why) → IsRefusal reply o →
    answer_of indices pairs (reply_of reply) ≡ acted_answer (store_of indices pairs) (act_all (Now (store_of indices pairs)) (map action_of actions))
refused_reply indices pairs actions names None reply n h r = absurd r
refused_reply indices pairs actions names (Some why) reply n h r =
    ap (λ (x : stores.Reply (Doc Js)). answer_of indices pairs x) r
    ∙ ap (λ (a : Acted (Doc Js)). acted_answer (store_of indices pairs) a) (sym (planned_stuck indices pairs actions why (subst (λ (ns : List Text). acted_on ns pairs actions ≡ Stuck why) n h)))

any_reply : {E : Type 0} (indices : Store) (pairs : List Pair) (actions : List Action) (names : List Text) (o : Option Refusal) (result : Result Reply E) →
    names ≡ names_of indices.indices → IfSome o (λ why. acted_on names pairs actions ≡ Stuck why) → IfOk result (λ reply. IsRefusal reply o) →
    IfOk result (λ reply. answer_of indices pairs (reply_of reply) ≡ acted_answer (store_of indices pairs) (act_all (Now (store_of indices pairs)) (map action_of actions)))
any_reply indices pairs actions names o (Ok reply) n h r = refused_reply indices pairs actions names o reply n h r
any_reply indices pairs actions names o (Err e) n h r = tt

pub returns-clause-ok : goal.returns-clause-ok
returns-clause-ok c = any_reply c.args.indices.now c.args.aliases.now c.args.actions.now c.in-Ok.names (refusal_of c.in-Err-plan.error) c.refused.result c.in-Ok.ensures.all c.in-Err-plan.ensures.refused c.refused.ensures
