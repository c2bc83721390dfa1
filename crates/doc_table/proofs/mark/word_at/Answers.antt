use Rattle.std.proofs.Common.{sym, arith}
use Rattle.doc_table.proofs.Marks.{mark_past}
use Rattle.doc_table.proofs.mark.word_at.Goals as goal

pub returns-then-from-bytes : goal.returns-then-from-bytes
returns-then-from-bytes c = sym (mark_past 8 c.args.from c.args.bytes.now (omega arith))
