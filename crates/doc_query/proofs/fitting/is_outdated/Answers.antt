use Rattle.std.proofs.Common.{sym, ◌∙◌}
use Rattle.doc_query.proofs.Searches.{any_outdated_for}
use Rattle.doc_query.proofs.fitting.is_outdated.Goals as goal

pub returns-else-is_empty : goal.returns-else-is_empty
returns-else-is_empty c = c.has_older_stamp.ensures ∙ any_outdated_for c.args.doc.now c.args.types.now (sym c.is_empty.ensures ∙ c.if-is_empty.false)
