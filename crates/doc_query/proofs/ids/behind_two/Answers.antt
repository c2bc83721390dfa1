use Rattle.std.proofs.Common.{[], option_and_then, sym, ap, ◌∙◌}
use Rattle.std.specs.Option.{option_copied}
use Rattle.document_model.specs.Documents.{after, joined}
use Rattle.doc_query.proofs.Fronts.{after_joined}
use Rattle.doc_query.proofs.ids.behind_two.Goals as goal

pub returns-in_err-behind : goal.returns-in_err-behind
returns-in_err-behind c = ap option_copied c.from_residual.ensures ∙ sym (after_joined _ _ _ ∙ ap (option_and_then (after (joined c.args.second.now []))) (sym c.in_err-behind.ensures))

pub returns : goal.returns
returns c = c.behind-2.ensures ∙ sym (after_joined _ _ _ ∙ ap (option_and_then (after (joined c.args.second.now []))) (sym c.in_ok-behind.ensures))
