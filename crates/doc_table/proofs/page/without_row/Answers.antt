use Rattle.doc_table.specs.Pages.{page_rows}
use Rattle.doc_table.proofs.Live.{clear_here, clear_gap}
use Rattle.doc_table.proofs.page.without_row.Goals as goal

pub returns-in-Ok : goal.returns-in-Ok
returns-in-Ok c =
    clear_here c.args.held.now.live c.cleared.result c.args.raw.now (page_rows c.args.held.now) c.args.place c.in-Ok.at c.in-Ok.is
    c.requires.place c.requires.sound.1 c.cleared.ensures.same c.cleared.ensures.others

pub returns-in-Err : goal.returns-in-Err
returns-in-Err c = clear_gap c.args.held.now.live c.args.raw.now (page_rows c.args.held.now) c.args.place c.in-Err.field-0 c.in-Err.is c.requires.place
