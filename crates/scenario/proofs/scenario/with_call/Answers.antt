use Rattle.std.proofs.Common.{List, sym, subst}
use Rattle.call_words.specs.Limits.{HasFewObjects}
use Rattle.doc_table.specs.RowLists.{Each}
use Rattle.scenario.specs.declared.scenario.ApplyAsk.{ApplyAsk}
use Rattle.scenario.proofs.AskSteps.{each_further}
use Rattle.scenario.proofs.scenario.with_call.Goals as goal

abbrev HaveFewObjects : List ApplyAsk → Type 0
HaveFewObjects = Each (λ a. HasFewObjects a.call)

pub returns-clause-few_objects : goal.returns-clause-few_objects
returns-clause-few_objects c few all =
    subst HaveFewObjects (sym c.in_ok-push.ensures.ok) (each_further (λ (a : ApplyAsk). HasFewObjects a.call) c.args.scenario.asks (record { at = c.args.at; call = c.args.call }) all few)
