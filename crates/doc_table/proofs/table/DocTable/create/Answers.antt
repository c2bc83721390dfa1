use Rattle.std.proofs.Common.{◌≡◌, sym, ◌∙◌, ap}
use Rattle.doc_table.specs.Pages.{rows_of}
use Rattle.doc_table.specs.Tables.{table_of, number}
use Rattle.doc_table.proofs.Entries.{number_by}
use Rattle.doc_table.proofs.Cases.{create_taken, created, written_there}
use Rattle.doc_table.proofs.table.DocTable.create.Goals as goal

pub returns-in-Some-clause-ok : goal.returns-in-Some-clause-ok
returns-in-Some-clause-ok c =
    let k : c.find-now.result.1 ≡ number c.args.self.now c.args.raw = c.find-now.ensures.number ∙ number_by c.args.self.now c.args.raw c.as_str.result.now (rows_of c.self.inside.pages.items) (rows_of c.as_slice.result.now) c.self.inside.next (ap rows_of c.as_slice.ensures.value) c.as_str.ensures c.self.view_is in
    create_taken c.args.self.now c.args.raw c.args.doc c.in-Some.now (sym k ∙ c.in-Some.is)

pub returns-in-None-clause-ok : goal.returns-in-None-clause-ok
returns-in-None-clause-ok c =
    let k : c.find-now.result.1 ≡ number c.args.self.now c.args.raw = c.find-now.ensures.number ∙ number_by c.args.self.now c.args.raw c.as_str.result.now (rows_of c.self.inside.pages.items) (rows_of c.as_slice.result.now) c.self.inside.next (ap rows_of c.as_slice.ensures.value) c.as_str.ensures c.self.view_is in
    let old = table_of (rows_of c.self.inside.pages.items) c.self.inside.next in
    let new = table_of (rows_of c.write_at.new.pages.items) c.write_at.new.next in
    created c.args.self.now new c.args.raw c.args.doc c.write_at.result (sym k ∙ c.in-None.is) (written_there old c.args.self.now new c.args.raw c.args.doc c.write_at.result c.self.view_is c.write_at.ensures.ok)
