use Rattle.std.proofs.Common.{List, ap, ◌∙◌, subst}
use Rattle.index_store.specs.declared.held.Held.{Held}
use Rattle.index_store.specs.Indices.{IsPlace}
use Rattle.index_store.proofs.Places.{sorted_set}
use Rattle.index_store.proofs.store.IndexStore.block.Goals as goal

pub invariant_of-self : goal.invariant_of-self
invariant_of-self c =
    let p : IsPlace c.args.index.now c.self.inside.indices.items c.in-Some.at = subst (λ (hs : List Held). IsPlace c.args.index.now hs c.in-Some.at) c.as_slice.ensures.value c.in-Some.ensures in
    sorted_set c.args.index.now c.self.inside.indices.items c.in-Some.at _ p (ap (λ (h : Held). h.name) c.index_mut.ensures.value ∙ p.named c.index_mut.result.now) c.self.invariant
