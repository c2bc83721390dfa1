use Rattle.doc_query.proofs.Fronts.{after_colon}
use Rattle.doc_query.proofs.ids.behind_colon.Goals as goal

pub returns : goal.returns
returns c = after_colon c.args.text.now c.strip_prefix.result c.strip_prefix.ensures.cases
