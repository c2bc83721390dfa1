use Rattle.std.proofs.Common.{ap, ◌∙◌, not}
use Rattle.document_model.specs.Documents.{lists}
use Rattle.doc_query.proofs.Searches.{any_is_lists}
use Rattle.doc_query.proofs.fitting.is_of_no_type.Goals as goal

pub returns : goal.returns
returns c = ap not (c.has_text.ensures ∙ any_is_lists _ c.args.types.now ∙ ap (λ t. lists t c.args.types.now) c.type_name.ensures.value)
