use Rattle.std.proofs.Common.{arith}
use Rattle.doc_table.proofs.Spots.{takes_here, takes_more}
use Rattle.doc_table.proofs.page.takes.Goals as goal

pub returns-then-rows-lt64 : goal.returns-then-rows-lt64
returns-then-rows-lt64 c = λ row t h. takes_more row c.args.rows.now (omega arith)

pub returns-in-Ok : goal.returns-in-Ok
returns-in-Ok c = λ row t h. takes_here row c.args.rows.now c.args.place c.in-Ok.field-0 c.in-Ok.is c.requires h
