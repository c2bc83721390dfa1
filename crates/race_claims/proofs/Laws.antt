-- The laws, as lemmas: fresh documents and sound clients are told by tests.
use Rattle.std.proofs.Common.{◌≡◌, ◌≢◌, ℕ, Bool, List, [], ◌∷◌, ◌++◌, Option, Some, IsTrue}
use Rattle.base_model.specs.Keyed.{Text, at}
use Rattle.race_model.specs.Stores.{Rows}
use Rattle.race_model.specs.Machines.{Settings, Cause, Machine, moved}
use Rattle.race_model.specs.Machines.State.{Init, Ended}
use Rattle.race_model.specs.Machines.End.{Fatal}
use Rattle.race_model.specs.Worlds.{Entry, Event, Node, nth}
use Rattle.race_model.specs.Worlds.Actor.{Instance}
use Rattle.race_model.specs.Worlds.How.{Heard}
use Rattle.race_model.specs.Journals.{Has, Past, state_of, heard_of}
use Rattle.race_model.specs.Openings.{Scenario, IsJournal, world_after, trace_after, facts_since}
use Rattle.race_model.specs.Openings.Opening.{NoGeneration}
use Rattle.race_model.specs.Premises.{IsFair, Paged}
use Rattle.race_facts.proofs.Opening.{every_sound}
use Rattle.race_claims.specs.Shown.{IsShown}
use Rattle.race_claims.specs.OneVersion.{IsOneVersion, IsByDocuments}
use Rattle.race_claims.specs.Unfailing.{HasFailed}
use Rattle.race_claims.specs.Unhindered.{IsOwn, FindsUnknown, IsUnhindered, GoesWell}
use Rattle.race_claims.proofs.Scenarios.{causes, goes, machine_goes, fails_by_documents, machine_fails_by_documents}

module _ {D Q C : Type 0} (s : Scenario D Q C) (is_fresh : Settings D Q → Text → D → Bool) (is_sound : C → Bool) (fair : IsFair s is_fresh is_sound) where
  abbrev Fresh : Settings D Q → Text → D → Type 0
  Fresh v raw doc = IsTrue (is_fresh v raw doc)

  abbrev Sound : C → Type 0
  Sound c = IsTrue (is_sound c)

-- Where a start ends as fatal at an entry, the store shows the cause at that moment.
pub causes_are_shown : {D Q C : Type 0} → (scenario : Scenario D Q C) (is_fresh : Settings D Q → Text → D → Bool) (is_sound : C → Bool) (journal : List (Entry D Q)) (e : Entry D Q) → IsFair scenario is_fresh is_sound → IsJournal scenario (journal ++ e ∷ []) → (i : ℕ) (past : Past D Q) (cause : Cause) → e.actor ≡ Instance i → e.how ≡ Heard → nth (trace_after scenario journal).pasts i ≡ Some past → moved (scenario.race.settings i) (state_of e.tag past.runs) e.reply ≡ Ended (Fatal cause) → IsShown scenario.race.select scenario.current (scenario.race.settings i) (trace_after scenario journal).store (state_of e.tag past.runs) cause
causes_are_shown s is_fresh is_sound journal e fair conforms = causes s (Fresh s is_fresh is_sound fair) (Sound s is_fresh is_sound fair) fair.laws fair.opens (every_sound is_sound s.scripts fair.sound) journal e conforms

-- A start that nothing stands against ends as done with its version's one target.
pub unhindered_starts_end_as_done : {D Q C : Type 0} → (scenario : Scenario D Q C) (is_fresh : Settings D Q → Text → D → Bool) (is_sound : C → Bool) (version_in : Text → Option Text) (pages : ℕ → Rows D → ℕ) (before after : List (Entry D Q)) (first : Entry D Q) (i tag : ℕ) (start past : Past D Q) → IsFair scenario is_fresh is_sound → ((v : Settings D Q) → Has v scenario.sets → (version : Text) × (version_in v.target ≡ Some version)) → ((j : ℕ) → Paged scenario.race.select (scenario.race.settings j) (pages j)) → FindsUnknown scenario.race.select (scenario.race.settings i) → IsJournal scenario (before ++ first ∷ after) → IsOwn i tag first → nth (trace_after scenario before).pasts i ≡ Some start → state_of tag start.runs ≡ Init → IsUnhindered scenario.race i tag (scenario.race.settings i) (facts_since scenario version_in before (first ∷ after)) (trace_after scenario before) (first ∷ after) (at scenario.current (trace_after scenario before).store.aliases) → nth (trace_after scenario (before ++ first ∷ after)).pasts i ≡ Some past → GoesWell (pages i) (scenario.race.settings i) (trace_after scenario (before ++ first ∷ after)).store (at scenario.current (trace_after scenario before).store.aliases) (heard_of tag past.runs) (state_of tag past.runs)
unhindered_starts_end_as_done s is_fresh is_sound version_in pages before after first i tag start past fair knows paged find = goes s (Fresh s is_fresh is_sound fair) (Sound s is_fresh is_sound fair) fair.laws fair.opens (every_sound is_sound s.scripts fair.sound) version_in knows pages paged before after first i tag start past find

-- Where every instance is of one version a start fails by documents alone.
pub one_version_fails_by_documents : {D Q C : Type 0} → (scenario : Scenario D Q C) (is_fresh : Settings D Q → Text → D → Bool) (is_sound : C → Bool) (v : Settings D Q) (journal : List (Entry D Q)) → IsFair scenario is_fresh is_sound → IsOneVersion scenario v → IsJournal scenario journal → (i tag : ℕ) (past : Past D Q) (cause : Cause) → nth (trace_after scenario journal).pasts i ≡ Some past → state_of tag past.runs ≡ Ended (Fatal cause) → IsByDocuments cause × (scenario.opening ≢ NoGeneration)
one_version_fails_by_documents s is_fresh is_sound v journal fair single = fails_by_documents s (Fresh s is_fresh is_sound fair) (Sound s is_fresh is_sound fair) fair.laws fair.opens (every_sound is_sound s.scripts fair.sound) v single journal

-- The same of every world.
pub worlds_of_one_version_fail_by_documents : {D Q C : Type 0} → (scenario : Scenario D Q C) (is_fresh : Settings D Q → Text → D → Bool) (is_sound : C → Bool) (v : Settings D Q) (events : List Event) → IsFair scenario is_fresh is_sound → IsOneVersion scenario v → (i : ℕ) (node : Node D Q) (m : Machine D) (cause : Cause) → nth (world_after scenario events).nodes i ≡ Some node → node.machine ≡ Some m → m.state ≡ Ended (Fatal cause) → IsByDocuments cause × (scenario.opening ≢ NoGeneration)
worlds_of_one_version_fail_by_documents s is_fresh is_sound v events fair single = machine_fails_by_documents s (Fresh s is_fresh is_sound fair) (Sound s is_fresh is_sound fair) fair.laws fair.opens (every_sound is_sound s.scripts fair.sound) v single events

-- The same of a world, for a start none of whose sends failed.
pub unhindered_machines_end_as_done : {D Q C : Type 0} → (scenario : Scenario D Q C) (is_fresh : Settings D Q → Text → D → Bool) (is_sound : C → Bool) (version_in : Text → Option Text) (pages : ℕ → Rows D → ℕ) (events : List Event) (before after : List (Entry D Q)) (first : Entry D Q) (i : ℕ) (start : Past D Q) (node : Node D Q) (m : Machine D) → IsFair scenario is_fresh is_sound → ((v : Settings D Q) → Has v scenario.sets → (version : Text) × (version_in v.target ≡ Some version)) → ((j : ℕ) → Paged scenario.race.select (scenario.race.settings j) (pages j)) → FindsUnknown scenario.race.select (scenario.race.settings i) → nth (world_after scenario events).nodes i ≡ Some node → node.machine ≡ Some m → (HasFailed node.starts node.sent → ⊥) → (world_after scenario events).journal ≡ before ++ first ∷ after → IsOwn i node.starts first → nth (trace_after scenario before).pasts i ≡ Some start → state_of node.starts start.runs ≡ Init → IsUnhindered scenario.race i node.starts (scenario.race.settings i) (facts_since scenario version_in before (first ∷ after)) (trace_after scenario before) (first ∷ after) (at scenario.current (trace_after scenario before).store.aliases) → (heard : ℕ) × GoesWell (pages i) (scenario.race.settings i) (world_after scenario events).store (at scenario.current (trace_after scenario before).store.aliases) heard m.state
unhindered_machines_end_as_done s is_fresh is_sound version_in pages events before after first i start node m fair knows paged find = machine_goes s (Fresh s is_fresh is_sound fair) (Sound s is_fresh is_sound fair) fair.laws fair.opens (every_sound is_sound s.scripts fair.sound) version_in knows pages paged events before after first i start node m find
