use Rattle.std.proofs.Common.{ℕ, List, length, drop, ◌∙◌, ap, arith}
use Rattle.doc_table.specs.Marks.{mark_of}
use Rattle.doc_table.proofs.Marks.{each_byte}
use Rattle.doc_table.proofs.marked.mark_after.Goals as goal

pub returns : goal.returns
returns c = record {
  whole = c.requires;
  mark = c.word_at.ensures ∙ ap (λ (r : List ℕ). mark_of 8 (drop (length c.args.prefix.now) r)) c.as_bytes.ensures.value;
  bytes = each_byte c.args.raw.now (λ i. let f = c.type_inv.raw i in omega arith);
}
