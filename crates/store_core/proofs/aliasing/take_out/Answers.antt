use Rattle.std.proofs.Common.{◌≡◌, List, ℕ, ◌∷◌, ◌+◌, drop, ap, sym, ◌∙◌, subst}
use Rattle.std.specs.Option.{IsSome}
use Rattle.std.proofs.lemmas.List.{drop_more, drop_all}
use Rattle.base_model.specs.Keyed.{at}
use Rattle.index_store.specs.Indices.{without_index}
use Rattle.store_core.specs.Engines.{without_all}
use Rattle.store_core.proofs.Taking.{first_there, rest_there, rest_without, none_without}
use Rattle.store_core.proofs.aliasing.take_out.Goals as goal

pub remove-requires : goal.remove-requires
remove-requires c =
    let items = c.as_slice-name-items.result.now in
    let i = c.loop-name.name-index in
    let a = c.name-item.result in
    let rest = drop (i + 1) items in
    let left : drop i items ≡ a ∷ rest = drop_more items i a c.loop-name-test.true ∙ ap (λ x. x ∷ rest) (sym c.name-item.is) in
    subst (λ (n : List ℕ). IsSome (at n c.loop-name.indices.indices)) (sym c.as_str.ensures)
    (first_there c.loop-name.indices a rest (drop i items) left c.loop-name.invariant.1)

pub loop-name-preserved : goal.loop-name-preserved
loop-name-preserved c =
    let items = c.as_slice-name-items.result.now in
    let i = c.loop-name.name-index in
    let a = c.name-item.result in
    let rest = drop (i + 1) items in
    let left : drop i items ≡ a ∷ rest = drop_more items i a c.loop-name-test.true ∙ ap (λ x. x ∷ rest) (sym c.name-item.is) in
    let e : c.remove.new.self ≡ without_index c.loop-name.indices a = c.remove.ensures ∙ ap (λ (n : List ℕ). without_index c.loop-name.indices n) c.as_str.ensures in
    (rest_without c.loop-name.indices c.remove.new.self a rest (drop i items) left e ∙ c.loop-name.invariant.0, rest_there c.loop-name.indices c.remove.new.self a rest (drop i items) left e c.loop-name.invariant.1)

pub returns : goal.returns
returns c =
    let items = c.as_slice-name-items.result.now in
    let i = c.loop-name.name-index in
    sym (none_without c.loop-name.indices)
    ∙ ap (λ (l : List (List ℕ)). without_all c.loop-name.indices l) (sym (drop_all i items c.loop-name-test.false))
    ∙ c.loop-name.invariant.0
    ∙ ap (λ (l : List (List ℕ)). without_all c.args.indices.now l) c.as_slice-name-items.ensures
