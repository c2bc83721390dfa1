use Rattle.doc_query.proofs.Fronts.{after_text}
use Rattle.doc_query.proofs.ids.behind_word.Goals as goal

pub returns : goal.returns
returns c = after_text c.args.word.now c.args.text.now c.strip_prefix.result c.strip_prefix.ensures.cases
