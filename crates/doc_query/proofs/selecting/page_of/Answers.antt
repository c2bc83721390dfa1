use Rattle.std.proofs.Common.{take, ap, ◌∙◌}
use Rattle.doc_query.proofs.Pages.{borrowed-take, borrowed-drop}
use Rattle.doc_query.proofs.selecting.page_of.Goals as goal

pub returns-in-Some : goal.returns-in-Some
returns-in-Some c = rw (c.front.ensures, c.behind-rest.ensures, c.in-Some.is) (borrowed-take _ _ ∙ ap (take c.in-Some.most) (borrowed-drop c.args.query.now.skip c.args.rows.now))

pub returns-in-None : goal.returns-in-None
returns-in-None c = rw (c.behind-rest.ensures, c.in-None.is) (borrowed-drop c.args.query.now.skip c.args.rows.now)
