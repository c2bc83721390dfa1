use Rattle.std.proofs.Common.{length, sym, ap, ◌∙◌}
use Rattle.doc_query.proofs.Pages.{borrowed-length}
use Rattle.doc_query.proofs.selecting.Selection.finish.Goals as goal

pub returns-clause-total : goal.returns-clause-total
returns-clause-total c = c.len-total.ensures ∙ c.self.inside.rows.ok.0 ∙ sym (borrowed-length c.self.inside.rows.items) ∙ ap length c.self.view_is
