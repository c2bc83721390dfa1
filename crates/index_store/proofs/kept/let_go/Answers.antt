use Rattle.std.proofs.Common.{◌==◌, ap, sym, ◌∙◌, rules}
use Rattle.std.specs.Prelude.{not}
use Rattle.std.proofs.lemmas.Fn.{filter_same}
use Rattle.index_store.specs.declared.kept.Kept.{Kept}
use Rattle.index_store.specs.Indices.{pits_of}
use Rattle.index_store.proofs.Pits.{close_filter}
use Rattle.index_store.proofs.kept.let_go.Goals as goal

pub returns : goal.returns
returns c =
    ap pits_of (filter_same _ (λ (k : Kept). not (c.args.number == k.number)) _ (λ x b f' k. search rules) _ _ c.retain.ensures.filtered)
    ∙ sym (close_filter c.args.number c.args.pits.now.items)
