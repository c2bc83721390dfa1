use Rattle.std.proofs.Common.{List, get_or, sym, ◌∙◌, ap, arith}
use Rattle.saved_doc.specs.declared.doc.Row.{Row}
use Rattle.doc_table.specs.Tables.{entries}
use Rattle.doc_table.specs.Pages.{page_rows}
use Rattle.doc_table.proofs.Cursor.{no_rows_left, one_row}
use Rattle.doc_table.proofs.PageLists.{read_as}
use Rattle.doc_table.proofs.reader.Rows.next.Goals as goal

pub returns-then-p-pages : goal.returns-then-p-pages
returns-then-p-pages c =
    let z = no_rows_left c.self.inside.pages.now c.next_spot-p.result.0 c.next_spot-p.result.1 (omega arith) in
    (sym c.self.view_is ∙ ap entries (sym c.next_spot-p.ensures.same ∙ z), ap entries z)

pub returns : goal.returns
returns c =
    let x = c.row.result.now in
    let held = c.index-pages-p.result in
    let i = c.index-rows-i.is ∙ ap (λ (t : List Row). get_or t c.next_spot-p.result.1 c.index-rows-i.result) c.rows-rows.ensures in
    let e = one_row c.self.inside.pages.now c.next_spot-p.result.0 c.next_spot-p.result.1 held x c.if-p-pages.false c.index-pages-p.is c.next_spot-p.ensures.alive (read_as (page_rows held) c.next_spot-p.result.1 c.index-rows-i.result x c.row.ensures i) in
    sym c.self.view_is ∙ ap entries (sym c.next_spot-p.ensures.same ∙ e)
