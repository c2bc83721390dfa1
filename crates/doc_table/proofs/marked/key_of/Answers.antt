use Rattle.std.proofs.Common.{subst}
use Rattle.std.proofs.lemmas.Bool.Decides.{Decides-eqb}
use Rattle.std.proofs.lemmas.Slice.Eq.{starts_is}
use Rattle.doc_table.specs.Marks.{Begins}
use Rattle.doc_table.proofs.marked.key_of.Goals as goal

pub mark_after-requires : goal.mark_after-requires
mark_after-requires c =
    subst (Begins c.args.prefix.now) c.as_bytes.ensures.value ((starts_is Decides-eqb c.as_bytes.result.now c.args.prefix.now c.starts_with.result c.starts_with.ensures.value).0 c.if-starts_with.true)
