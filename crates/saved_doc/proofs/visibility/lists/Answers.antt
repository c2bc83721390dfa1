use Rattle.std.proofs.Common.{◌∙◌}
use Rattle.saved_doc.proofs.ReadingLemmas.{any_is_lists}
use Rattle.saved_doc.proofs.visibility.lists.Goals as goal

pub returns : goal.returns
returns c = c.has_text.ensures ∙ any_is_lists c.args.text.now c.args.texts.now
