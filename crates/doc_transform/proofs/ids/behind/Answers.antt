use Rattle.std.proofs.Common.{◌≡◌, ◌++◌, sym, ap, ◌∙◌}
use Rattle.base_model.specs.Keyed.{Text}
use Rattle.document_model.specs.Documents.{after}
use Rattle.raw_id.proofs.Splits.{after-append, after-none}
use Rattle.doc_transform.proofs.ids.behind.Goals as goal

pub returns-in-Some : goal.returns-in-Some
returns-in-Some c =
    let found = c.in-Some.ensures.cases in
    let whole : c.args.text.now ≡ c.args.front.now ++ c.in-Some.rest.now = found.1.1 ∙ ap (λ (t : Text). c.args.front.now ++ t) (sym found.2) in
    sym (ap (after c.args.front.now) whole ∙ after-append c.args.front.now c.in-Some.rest.now)

pub returns-in-None : goal.returns-in-None
returns-in-None c = sym (after-none c.args.front.now c.args.text.now c.in-None.ensures.cases)
