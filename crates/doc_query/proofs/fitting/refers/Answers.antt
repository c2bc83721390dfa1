use Rattle.std.proofs.Common.{◌∙◌}
use Rattle.doc_query.proofs.Searches.{any_refers}
use Rattle.doc_query.proofs.fitting.refers.Goals as goal

pub returns : goal.returns
returns c = c.has_reference_to.ensures ∙ any_refers c.args.target.now c.args.references.now
