use Rattle.std.proofs.Common.{◌≡◌, ◌++◌, map, drop}
use Rattle.race_model.specs.Stores.{act_all}
use Rattle.race_model.specs.Stores.Acted.{Now}
use Rattle.alias_table.specs.Plans.{bare_store, action_of, acted_on, removed_by, names_after}
use Rattle.alias_table.proofs.planning.plan.Given as goal

-- what the actions so far left, on which the others do what all do on the opening
abbrev pub invariant-loop-action : goal.invariant-loop-action
invariant-loop-action l =
    (act_all (Now (bare_store l.draft.names l.draft.aliases)) (map action_of (drop l.action-index l.action-items)) ≡ acted_on l.indices l.aliases l.action-items)
    × (l.draft.removed ++ removed_by (drop l.action-index l.action-items) ≡ removed_by l.action-items)
    × (l.draft.names ≡ names_after l.indices l.draft.removed)
