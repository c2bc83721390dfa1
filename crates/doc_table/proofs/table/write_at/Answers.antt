use Rattle.std.proofs.Common.{◌+◌, List, refl, ◌∙◌, ap}
use Rattle.saved_doc.specs.declared.doc.Row.{Row}
use Rattle.doc_table.specs.Pages.{rows_of}
use Rattle.doc_table.specs.Tables.{table_of}
use Rattle.doc_table.proofs.Entries.{table_with}
use Rattle.doc_table.proofs.Numbered.{numbered_with}
use Rattle.doc_table.proofs.table.write_at.Goals as goal

pub returns-clause-ok : goal.returns-clause-ok
returns-clause-ok c =
    let row : Row = record { raw = c.args.raw; seq = c.args.next.now; doc = c.args.doc } in
    (refl, ap (λ (rows : List Row). table_of rows (c.args.next.now + 1)) c.in_ok-put_seated.ensures.ok ∙ table_with row (rows_of c.args.pages.now.items) c.requires.paged.numbered.rising)

pub returns-clause-paged : goal.returns-clause-paged
returns-clause-paged c = record {
  numbered = rw c.in_ok-put_seated.ensures.ok (numbered_with (record { raw = c.args.raw; seq = c.args.next.now; doc = c.args.doc }) (rows_of c.args.pages.now.items) c.requires.paged.numbered);
  paged = c.in_ok-put_seated.ensures.pages;
}
