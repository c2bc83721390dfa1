use Rattle.std.proofs.Common.{◌+◌, List, ◌∙◌, ap}
use Rattle.saved_doc.specs.declared.doc.Row.{Row}
use Rattle.doc_table.specs.Pages.{rows_of}
use Rattle.doc_table.specs.Tables.{table_of}
use Rattle.doc_table.proofs.Entries.{table_without}
use Rattle.doc_table.proofs.Numbered.{numbered_without}
use Rattle.doc_table.proofs.table.erase_at.Goals as goal

pub returns-clause-table : goal.returns-clause-table
returns-clause-table c =
    ap (λ (rows : List Row). table_of rows (c.args.next.now + 1)) c.clear_seated.ensures.rows ∙ table_without c.args.raw.now (rows_of c.args.pages.now.items) c.args.next.now c.requires.paged.numbered.rising

pub returns-clause-paged : goal.returns-clause-paged
returns-clause-paged c = record {
  numbered = rw c.clear_seated.ensures.rows (numbered_without c.args.raw.now (rows_of c.args.pages.now.items) c.args.next.now c.requires.paged.numbered);
  paged = c.clear_seated.ensures.pages;
}
