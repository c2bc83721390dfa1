-- A start in a rollout that nothing stands against.
use Rattle.std.specs.Prelude.{◌≡◌, ℕ, List, ◌∷◌, Option, Some}
use Rattle.base_model.specs.Keyed.{Text, at}
use Rattle.race_model.specs.Machines.State.{Init}
use Rattle.race_model.specs.Worlds.{Entry, nth}
use Rattle.race_model.specs.Journals.{Past, state_of}
use Rattle.race_model.specs.Openings.{trace_after, facts_since}
use Rattle.race_claims.specs.Unhindered.{IsOwn, IsUnhindered}
use Rattle.document_model.specs.Documents.{Doc}
use Rattle.query_model.specs.Queries.{Query}
use Rattle.call_model.specs.Upgrades.{Rollout, scenario_of, named_version}

-- the index that the current alias names after these entries
abbrev pub named_after : {A O F : Type 0} → Rollout A O F → List (Entry (Doc A) (Query F)) → Option Text
named_after r journal = at r.names.current (trace_after (scenario_of r) journal).store.aliases

-- an instance begins the start with this tag at the entry `first`, after the entries `before`; and from there along the entries `after` nothing stands against it
pub record BeginsUnhindered {A O F : Type 0} (r : Rollout A O F) (before after : List (Entry (Doc A) (Query F))) (first : Entry (Doc A) (Query F)) (instance tag : ℕ) : Type 0 where
  pub own : IsOwn instance tag first
  pub past : Past (Doc A) (Query F)
  pub there : nth (trace_after (scenario_of r) before).pasts instance ≡ Some past
  pub begins : state_of tag past.runs ≡ Init
  pub unhindered : IsUnhindered (scenario_of r).race instance tag ((scenario_of r).race.settings instance) (facts_since (scenario_of r) (named_version r.names) before (first ∷ after)) (trace_after (scenario_of r) before) (first ∷ after) (named_after r before)
