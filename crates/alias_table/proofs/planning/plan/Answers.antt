use Rattle.std.proofs.Common.{◌≡◌, ◌∷◌, ◌++◌, ◌+◌, map, drop, ap, sym, ◌∙◌, append_assoc}
use Rattle.std.proofs.lemmas.List.{drop_more}
use Rattle.race_model.specs.Stores.{act_all}
use Rattle.race_model.specs.Stores.Acted.{Now}
use Rattle.race_tables.proofs.Requests.{act_step}
use Rattle.alias_table.specs.Plans.{bare_store, action_of, removed_one, removed_by, names_after, refusal_of, acted_on}
use Rattle.alias_table.proofs.Drafts.{stuck_at, names_after_join}
use Rattle.alias_table.proofs.planning.plan.Goals as goal

pub loop-action-preserved : goal.loop-action-preserved
unfolding removed_by
loop-action-preserved c =
    let items = c.as_slice-action-items.result.now in
    let i = c.loop-action.action-index in
    let a = c.action-item.result in
    let rest = drop (i + 1) items in
    let draft = c.loop-action.draft in
    let left : drop i items ≡ a ∷ rest = drop_more items i a c.loop-action-test.true ∙ ap (λ x. x ∷ rest) (sym c.action-item.is) in
    let kept = c.loop-action.invariant in (
      sym (act_step _ _ (action_of a) (map action_of rest) c.in-Ok.ensures.done) ∙ ap (λ l. act_all (Now (bare_store draft.names draft.aliases)) (map action_of l)) (sym left) ∙ kept.0,
      ap (λ r. r ++ removed_by rest) c.in-Ok.ensures.removed ∙ append_assoc draft.removed (removed_one a) (removed_by rest) ∙ ap (λ l. draft.removed ++ removed_by l) (sym left) ∙ kept.1,
      c.in-Ok.ensures.names ∙ ap (λ n. names_after n (removed_one a)) kept.2 ∙ sym (names_after_join _ _ _) ∙ ap (λ r. names_after c.args.indices.now r) (sym c.in-Ok.ensures.removed),
    )

pub returns-in-Err-clause-refused : goal.returns-in-Err-clause-refused
returns-in-Err-clause-refused c =
    let items = c.as_slice-action-items.result.now in
    let i = c.loop-action.action-index in
    let a = c.action-item.result in
    let rest = drop (i + 1) items in
    let draft = c.loop-action.draft in
    let left : drop i items ≡ a ∷ rest = drop_more items i a c.loop-action-test.true ∙ ap (λ x. x ∷ rest) (sym c.action-item.is) in
    stuck_at (refusal_of c.in-Err.e) (bare_store draft.names draft.aliases) (action_of a) (map action_of rest) _ c.in-Err.ensures.refused
    (ap (λ l. act_all (Now (bare_store draft.names draft.aliases)) (map action_of l)) (sym left) ∙ c.loop-action.invariant.0
    ∙ ap (λ l. acted_on c.args.indices.now c.args.aliases.now l) c.as_slice-action-items.ensures)
