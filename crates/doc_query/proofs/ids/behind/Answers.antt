use Rattle.std.proofs.Common.{[], ◌∷◌, option_and_then, sym, ap, ◌∙◌}
use Rattle.std.specs.Option.{option_copied}
use Rattle.document_model.specs.Documents.{after, colon}
use Rattle.doc_query.proofs.Fronts.{after_word}
use Rattle.doc_query.proofs.ids.behind.Goals as goal

pub returns-in_err-behind_word : goal.returns-in_err-behind_word
returns-in_err-behind_word c = ap option_copied c.from_residual.ensures ∙ sym (after_word _ _ ∙ ap (option_and_then (after (colon ∷ []))) (sym c.in_err-behind_word.ensures))

pub returns : goal.returns
returns c = c.behind_colon.ensures ∙ sym (after_word _ _ ∙ ap (option_and_then (after (colon ∷ []))) (sym c.in_ok-behind_word.ensures))
