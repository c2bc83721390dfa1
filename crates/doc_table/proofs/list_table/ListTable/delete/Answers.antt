use Rattle.std.proofs.Common.{sym, ◌∙◌}
use Rattle.doc_table.specs.Tables.{item_of}
use Rattle.doc_table.proofs.Cases.{delete_missing, delete_done, delete_refused}
use Rattle.doc_table.proofs.list_table.ListTable.delete.Goals as goal

pub returns-in-None : goal.returns-in-None
returns-in-None c = delete_missing c.args.self.now c.args.raw.now c.args.expect (sym c.number.ensures ∙ c.in-None.is)

pub returns-then-meets : goal.returns-then-meets
returns-then-meets c =
    (λ j. (c.erase.ensures.table j, item_of (c.erase.ensures.item j)))
    ∙ delete_done c.args.self.now c.args.raw.now c.args.expect c.in-Some.now (sym c.number.ensures ∙ c.in-Some.is) (sym c.meets.ensures ∙ c.if-meets.true)

pub returns-else-meets : goal.returns-else-meets
returns-else-meets c = delete_refused c.args.self.now c.args.raw.now c.args.expect c.in-Some.now (sym c.number.ensures ∙ c.in-Some.is) (sym c.meets.ensures ∙ c.if-meets.false)
