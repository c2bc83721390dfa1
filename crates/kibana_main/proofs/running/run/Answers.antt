use Rattle.std.proofs.Common.{◌≡◌, ℕ, ◌+◌, List, ◌∷◌, drop, length, sym, ap, subst, ◌∙◌, arith}
use Rattle.std.proofs.lemmas.List.{drop_more}
use Rattle.call_words.specs.Limits.{HasFewObjects}
use Rattle.scenario.specs.declared.scenario.ApplyAsk.{ApplyAsk}
use Rattle.kibana_main.specs.declared.status.Status.TheVariants as status
use Rattle.kibana_main.specs.Output.{outcome_on}
use Rattle.kibana_main.specs.Running.{table_after}
use Rattle.kibana_main.proofs.Runs.{made_of, goes_on, ends, ends_full, each_rest}
use Rattle.kibana_main.proofs.running.run.Goals as goal

pub loop-ask-preserved : goal.loop-ask-preserved
loop-ask-preserved c =
    let l = c.loop-ask in
    let i = l.ask-index in
    let items = c.as_slice-ask-items.result.now in
    let a = c.ask-item.result in
    let rest : List ApplyAsk = drop (i + 1) items in
    let now = l.invariant.going.0 in
    let going = l.invariant.going.1 in
    let next : drop i items ≡ a ∷ rest = drop_more items i a c.loop-ask-test.true ∙ ap (λ x. x ∷ rest) (sym c.ask-item.is) in
    let did = c.in_ok-made.ensures in
    let made = c.if-not-made.false in
    record {
      few = (each_rest (λ (x : ApplyAsk). HasFewObjects x.call) (drop i items) rest a next l.invariant.few).1;
      going = (
        table_after c.args.reg.now now a,
        goes_on c.args.reg.now c.args.table.now items i l.link.core c.make_call.new.link.core l.lines c.make_call.new.lines now a next (sym did.made ∙ made) (did.store made) (did.room made) (did.table now going.holds made) (did.line now going.holds made) going,
      );
    }

pub returns : goal.returns
returns c =
    let l = c.loop-ask in
    let items = c.as_slice-ask-items.result.now in
    let reg = c.args.reg.now in
    let t = c.args.table.now in
    let end : l.ask-index ≡ length items = omega arith in
    subst (λ (asks : List ApplyAsk). record { status = status.Ok; text = l.lines } ≡ outcome_on reg t (made_of reg t asks) asks) c.as_slice-ask-items.ensures (ends reg t items l.ask-index l.link.core l.lines l.invariant.going.0 end l.invariant.going.1)

pub returns-then-not-made : goal.returns-then-not-made
returns-then-not-made c =
    let l = c.loop-ask in
    let i = l.ask-index in
    let items = c.as_slice-ask-items.result.now in
    let a = c.ask-item.result in
    let reg = c.args.reg.now in
    let t = c.args.table.now in
    let next : drop i items ≡ a ∷ drop (i + 1) items = drop_more items i a c.loop-ask-test.true ∙ ap (λ x. x ∷ drop (i + 1) items) (sym c.ask-item.is) in
    let did = c.in_ok-made.ensures in
    let full = c.if-not-made.true in
    let ended = ends_full reg t items i l.link.core l.lines l.invariant.going.0 a c.loop-ask-test.true next (sym did.made ∙ full) l.invariant.going.1 in
    subst (λ (asks : List ApplyAsk). record { status = status.JournalFull; text = c.make_call.new.lines } ≡ outcome_on reg t (made_of reg t asks) asks) c.as_slice-ask-items.ensures
    (subst (λ (lines : List ℕ). record { status = status.JournalFull; text = lines } ≡ outcome_on reg t (made_of reg t items) items) (sym (did.full full)) ended)
