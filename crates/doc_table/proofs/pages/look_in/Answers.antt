use Rattle.std.proofs.Common.{◌∙◌}
use Rattle.doc_table.proofs.PageChanges.{page_rising, rows_found}
use Rattle.doc_table.proofs.pages.look_in.Goals as goal

pub place-requires : goal.place-requires
place-requires c = page_rising c.args.pages.now c.page_of-p.result c.index-pages-p.result c.requires c.page_of-p.ensures.within c.index-pages-p.is

pub returns : goal.returns
returns c = c.look.ensures ∙ rows_found c.args.raw.now c.args.pages.now c.page_of-p.result c.index-pages-p.result c.page_of-p.ensures c.index-pages-p.is
