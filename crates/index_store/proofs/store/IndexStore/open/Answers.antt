use Rattle.std.proofs.Common.{◌≡◌, [], subst, arith}
use Rattle.std.proofs.lemmas.Grind.{common_steps}
use Rattle.base_model.specs.Keyed.{Keyed}
use Rattle.document_model.specs.Documents.{Doc}
use Rattle.so_js.specs.declared.js.Js.{Js}
use Rattle.race_model.specs.Stores.{Index}
use Rattle.index_store.specs.Indices.{indices_of, opened_after, HasEach}
use Rattle.index_store.proofs.Openings.{has_each}
use Rattle.index_store.proofs.store.IndexStore.open.Goals as goal

pub returns-clause-given : goal.returns-clause-given
unfolding opened_after
returns-clause-given c = λ apart.
    let e : opened_after [] c.args.indices ≡ indices_of c.loop-opened.held.items = grind (arith, common_steps, c.loop-opened.invariant) in
    subst (λ (ixs : Keyed (Index (Doc Js))). HasEach ixs c.args.indices) e (has_each [] c.args.indices apart)
