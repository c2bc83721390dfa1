use Rattle.std.proofs.Common.{sym, ◌∙◌, ap}
use Rattle.doc_table.specs.Tables.{number}
use Rattle.doc_table.proofs.Cases.{create_taken, created}
use Rattle.doc_table.proofs.list_table.ListTable.create.Goals as goal

pub returns-in-Some-clause-ok : goal.returns-in-Some-clause-ok
returns-in-Some-clause-ok c = create_taken c.args.self.now c.args.raw c.args.doc c.in-Some.now (ap (number c.args.self.now) (sym c.as_str.ensures) ∙ sym c.number.ensures ∙ c.in-Some.is)

pub returns-in-None-clause-ok : goal.returns-in-None-clause-ok
returns-in-None-clause-ok c = created c.args.self.now c.write.new.self c.args.raw c.args.doc c.write.result (ap (number c.args.self.now) (sym c.as_str.ensures) ∙ sym c.number.ensures ∙ c.in-None.is) c.write.ensures.ok
