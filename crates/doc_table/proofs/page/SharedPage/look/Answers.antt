use Rattle.std.proofs.Common.{List, sym, ◌∙◌, ap}
use Rattle.std.specs.Prelude.{slice_get}
use Rattle.saved_doc.specs.declared.doc.Row.{Row}
use Rattle.doc_table.specs.Pages.{page_rows}
use Rattle.doc_table.proofs.Live.{look_here, look_dead, look_gap}
use Rattle.doc_table.proofs.page.SharedPage.look.Goals as goal

pub returns-then-is_live : goal.returns-then-is_live
returns-then-is_live c =
    c.row_at.ensures ∙ ap (λ (t : List Row). slice_get t c.in-Ok.at) c.rows.ensures
    ∙ look_here c.args.self.now.live c.args.raw.now (page_rows c.args.self.now) c.args.place c.in-Ok.at c.in-Ok.is c.requires.place (sym c.is_live.ensures ∙ c.if-is_live.true)

pub returns-else-is_live : goal.returns-else-is_live
returns-else-is_live c = look_dead c.args.self.now.live c.args.raw.now (page_rows c.args.self.now) c.args.place c.in-Ok.at c.in-Ok.is c.requires.place (sym c.is_live.ensures ∙ c.if-is_live.false)

pub returns-in-Err : goal.returns-in-Err
returns-in-Err c = look_gap c.args.self.now.live c.args.raw.now (page_rows c.args.self.now) c.args.place c.in-Err.field-0 c.in-Err.is c.requires.place
