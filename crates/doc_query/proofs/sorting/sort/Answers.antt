use Rattle.doc_query.proofs.Pages.{borrowed-reverse}
use Rattle.doc_query.proofs.sorting.sort.Goals as goal

pub returns-then-query-2 : goal.returns-then-query-2
returns-then-query-2 c = rw (c.reverse.ensures.items, c.in-Raw.is, c.if-query-2.true) (borrowed-reverse c.args.rows.now.items)
