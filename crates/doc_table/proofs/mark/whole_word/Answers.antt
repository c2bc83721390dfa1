use Rattle.doc_table.proofs.Marks.{mark_eight}
use Rattle.std.proofs.Common.{arith}
use Rattle.doc_table.proofs.mark.whole_word.Goals as goal

pub returns : goal.returns
returns c = let e = c.from_be_bytes.ensures in mark_eight c.args.bytes.now c.from_be_bytes.result (omega arith)
