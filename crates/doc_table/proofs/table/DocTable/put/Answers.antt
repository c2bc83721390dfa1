use Rattle.std.proofs.Common.{◌≡◌, Option, ℕ, sym, ◌∙◌, ap}
use Rattle.race_model.specs.Stores.{Item}
use Rattle.doc_table.specs.RowLists.{meets}
use Rattle.doc_table.specs.Pages.{rows_of}
use Rattle.doc_table.specs.Tables.{table_of, number}
use Rattle.doc_table.proofs.Entries.{number_by}
use Rattle.doc_table.proofs.Cases.{put_refused, placed, written_there}
use Rattle.doc_table.proofs.table.DocTable.put.Goals as goal

pub returns-then-meets-clause-ok : goal.returns-then-meets-clause-ok
returns-then-meets-clause-ok c =
    let k : c.find-now.result.1 ≡ number c.args.self.now c.args.raw = c.find-now.ensures.number ∙ number_by c.args.self.now c.args.raw c.as_str.result.now (rows_of c.self.inside.pages.items) (rows_of c.as_slice.result.now) c.self.inside.next (ap rows_of c.as_slice.ensures.value) c.as_str.ensures c.self.view_is in
    let old = table_of (rows_of c.self.inside.pages.items) c.self.inside.next in
    let new = table_of (rows_of c.write_at.new.pages.items) c.write_at.new.next in
    placed c.args.self.now new c.args.raw c.args.doc c.args.expect c.write_at.result (sym (c.meets.ensures ∙ ap (meets c.args.expect) k) ∙ c.if-meets.true) (written_there old c.args.self.now new c.args.raw c.args.doc c.write_at.result c.self.view_is c.write_at.ensures.ok)

pub returns-clause-ok : goal.returns-clause-ok
returns-clause-ok c =
    let k : c.find-now.result.1 ≡ number c.args.self.now c.args.raw = c.find-now.ensures.number ∙ number_by c.args.self.now c.args.raw c.as_str.result.now (rows_of c.self.inside.pages.items) (rows_of c.as_slice.result.now) c.self.inside.next (ap rows_of c.as_slice.ensures.value) c.as_str.ensures c.self.view_is in
    ap (λ (o : Option ℕ). (c.args.self.now, Item.Conflict o)) k ∙ put_refused c.args.self.now c.args.raw c.args.doc c.args.expect (sym (c.meets.ensures ∙ ap (meets c.args.expect) k) ∙ c.if-meets.false)
