use Rattle.std.proofs.Common.{List, sym, subst}
use Rattle.index_store.specs.declared.held.Held.{Held}
use Rattle.index_store.specs.Indices.{IsPlace}
use Rattle.index_store.proofs.Places.{sorted_set}
use Rattle.index_store.proofs.held.put.Goals as goal

pub returns-in-Some-clause-sorted : goal.returns-in-Some-clause-sorted
returns-in-Some-clause-sorted c =
    let name = c.as_str.result.now in
    let items = c.args.indices.now.items in
    let p : IsPlace name items c.in-Some.at = subst (λ (hs : List Held). IsPlace name hs c.in-Some.at) c.as_slice.ensures.value c.in-Some.ensures in
    sorted_set name items c.in-Some.at _ p (sym c.as_str.ensures) c.requires
