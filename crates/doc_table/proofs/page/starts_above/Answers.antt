use Rattle.std.proofs.Common.{sym, ◌∙◌}
use Rattle.doc_table.specs.Pages.{page_rows}
use Rattle.doc_table.proofs.Marks.{first_above, first_below}
use Rattle.doc_table.proofs.page.starts_above.Goals as goal

pub returns-in-Less : goal.returns-in-Less
returns-in-Less c = first_below c.args.held.now.mark c.args.key c.args.raw.now (page_rows c.args.held.now) c.requires.sound.2 c.requires.key (sym c.compare_marks.ensures ∙ c.in-Less.is)

pub returns-in-Greater : goal.returns-in-Greater
returns-in-Greater c = first_above c.args.held.now.mark c.args.key c.args.raw.now (page_rows c.args.held.now) c.requires.sound.2 c.requires.key (sym c.compare_marks.ensures ∙ c.in-Greater.is)
