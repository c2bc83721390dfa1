use Rattle.std.proofs.Common.{◌≡◌, Some, sym, ◌∙◌, ap, subst}
use Rattle.std.proofs.lemmas.Result.{IfOk-at_ok}
use Rattle.base_model.specs.Keyed.{at}
use Rattle.race_model.specs.Stores.{Table}
use Rattle.document_model.specs.Documents.{Doc}
use Rattle.so_js.specs.declared.js.Js.{Js}
use Rattle.call_model.specs.Calls.{Call}
use Rattle.call_model.specs.Calls.Answer.{Each, Refused}
use Rattle.call_model.specs.Scripts.{performed, with_table}
use Rattle.call_model.specs.Steps.{called}
use Rattle.call_laws.specs.Meanings.{Shows, then_on}
use Rattle.call_words.specs.Mapped.{call_of}
use Rattle.call_words.specs.Product.{product_words}
use Rattle.call_words.specs.Told.{answer_with_token}
use Rattle.own_link.specs.Calling.{step_on}
use Rattle.own_link.proofs.Refusals.{refused_told, each_told, refused_alike}
use Rattle.own_link.proofs.calling.call_on.Goals as goal

pub returns-clause-refused : goal.returns-clause-refused
returns-clause-refused c = λ g why holds e.
    let call = call_of c.args.call.now in
    let reg = c.args.reg.now in
    let step = step_on reg g call in
    let told = IfOk-at_ok (λ answer. answer ≡ answer_with_token (performed product_words reg c.args.link.now.core.store call).1) e c.performed_on.ensures.answer in
    let answer : step.1 ≡ Refused why =
    refused_told step.1 why (ap answer_with_token (sym (c.performed_is_one_thread.ensures.answer product_words reg g c.args.link.now.core.store call holds.shows holds.alias)) ∙ sym told) in
    let same : then_on step.0 g.table ≡ g.table =
    sym (c.one_moment_is_one_thread.ensures.table product_words reg g call)
    ∙ c.refused_changes_nothing.ensures.call product_words reg call (Some g) g why (c.one_moment_is_one_thread.ensures.answer product_words reg g call ∙ answer) in
    let left = IfOk-at_ok (λ _. c.performed_on.new.link.core.store ≡ (performed product_words reg c.args.link.now.core.store call).0) e c.performed_on.ensures.store in
    let shows = c.performed_is_one_thread.ensures.table product_words reg g c.args.link.now.core.store call holds.shows holds.alias in
    record {
      shows = subst (λ st. Shows st g) (sym left) (subst (λ (t : Table (Doc Js)). Shows (performed product_words reg c.args.link.now.core.store call).0 (with_table g t)) same shows);
      alias = holds.alias;
    }

pub returns-clause-refused_items : goal.returns-clause-refused_items
returns-clause-refused_items c = λ g space raw objects overwrite time ones holds bulk e refused.
    let call = call_of c.args.call.now in
    let reg = c.args.reg.now in
    let step = step_on reg g call in
    let told = IfOk-at_ok (λ answer. answer ≡ answer_with_token (performed product_words reg c.args.link.now.core.store call).1) e c.performed_on.ensures.answer in
    let each =
    each_told step.1 ones (ap answer_with_token (sym (c.performed_is_one_thread.ensures.answer product_words reg g c.args.link.now.core.store call holds.shows holds.alias)) ∙ sym told) in
    let answer = subst (λ (x : Call Js). (called product_words reg x (Some g) (Some g)).1 ≡ Each each.items) bulk (c.one_moment_is_one_thread.ensures.answer product_words reg g call ∙ each.answered) in
    let row = c.refused_changes_nothing.ensures.item product_words reg space objects overwrite time (Some g) g each.items raw answer (refused_alike reg space raw objects ones each.items each.told refused) in
    ap (λ (t : Table (Doc Js)). at raw t.rows) (sym (c.one_moment_is_one_thread.ensures.table product_words reg g call))
    ∙ ap (λ (x : Call Js). at raw (then_on (called product_words reg x (Some g) (Some g)).0 g.table).rows) bulk ∙ row
