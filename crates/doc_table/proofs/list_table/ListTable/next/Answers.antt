use Rattle.std.proofs.Common.{subst}
use Rattle.doc_table.specs.Tables.{IsTable}
use Rattle.doc_table.proofs.Entries.{is_table}
use Rattle.doc_table.proofs.list_table.ListTable.next.Goals as goal

pub returns-clause-table : goal.returns-clause-table
returns-clause-table c = subst IsTable c.self.view_is (is_table (c.self.inside.rows.items) c.self.inside.next c.self.invariant)
