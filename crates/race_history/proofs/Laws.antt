-- The laws, as lemmas.
use Rattle.std.proofs.Common.{◌≡◌, ℕ, Bool, List, Option, Some, None}
use Rattle.base_model.specs.Keyed.{Text}
use Rattle.race_model.specs.Machines.{Settings}
use Rattle.race_model.specs.Machines.State.{Ended}
use Rattle.race_model.specs.Machines.{End}
use Rattle.race_model.specs.Worlds.{Entry, nth}
use Rattle.race_model.specs.Journals.{Past, state_of}
use Rattle.race_model.specs.Generations.{Generations, of_alias}
use Rattle.race_model.specs.Runs.{IsRun}
use Rattle.race_model.specs.Openings.{Scenario, opening_generations, found_at_opening, IsJournal, trace_after, facts_of_journal}
use Rattle.race_model.specs.Premises.{IsFair}
use Rattle.race_history.specs.Generated.{AreShown, HasFact}
use Rattle.std.proofs.Common.{IsTrue}
use Rattle.race_model.specs.Openings.{IsEmptyOpening, opening_store, opening_generations, found_at_opening}
use Rattle.race_facts.proofs.Opening.{every_sound, opens_well}
use Rattle.race_history.proofs.Opening.{well_shown, well_found}
use Rattle.race_history.proofs.Claiming.{journal_runs}
use Rattle.race_history.proofs.Claiming.{done_told}

-- Every journal that conforms is a run of one table per version: its facts, by playing the aliases, are its moves; the versions rise; each version has at most one migration, which appends exactly the migrated rows of the last generation, blocked and clean; each client is told what its own version's generation tells; and the store shows the generations that the run ends with.
pub journals_are_runs : {D Q C : Type 0} → (scenario : Scenario D Q C) (is_fresh : Settings D Q → Text → D → Bool) (is_sound : C → Bool) (version_in : Text → Option Text) (journal : List (Entry D Q)) → IsFair scenario is_fresh is_sound → IsJournal scenario journal → (last : Generations D) × IsRun scenario.race scenario.current version_in (found_at_opening scenario.opening) (opening_generations scenario.opening) journal last × AreShown scenario.sets last (trace_after scenario journal).store
journals_are_runs = λ s is_fresh is_sound version_in journal fair conforms.
    journal_runs s.race s.current s.sets (λ v raw doc. IsTrue (is_fresh v raw doc)) (λ x. IsTrue (is_sound x)) fair.laws (IsEmptyOpening s.opening) (opening_store s.current s.opening)
    (opens_well s.race s.current s.sets (λ v raw doc. IsTrue (is_fresh v raw doc)) (λ x. IsTrue (is_sound x)) fair.laws s.opening fair.opens)
    version_in (opening_generations s.opening) (found_at_opening s.opening) (well_shown s.race s.current s.sets (λ v raw doc. IsTrue (is_fresh v raw doc)) (λ x. IsTrue (is_sound x)) fair.laws s.opening fair.opens) (well_found s.race s.current s.sets (λ v raw doc. IsTrue (is_fresh v raw doc)) (λ x. IsTrue (is_sound x)) fair.laws s.opening fair.opens)
    s.instances s.scripts journal (every_sound is_sound s.scripts fair.sound) conforms

-- Along every journal that conforms, the start of an instance that ended as done names its version's one target, and a migration or an install to it stands among the journal's facts. With the journal up to the start's last entry this says that it stands at or before that entry.
pub done_has_its_fact : {D Q C : Type 0} → (scenario : Scenario D Q C) (is_fresh : Settings D Q → Text → D → Bool) (is_sound : C → Bool) (version_in : Text → Option Text) (journal : List (Entry D Q)) → IsFair scenario is_fresh is_sound → IsJournal scenario journal → (i : ℕ) (past : Past D Q) (tag : ℕ) (target version : Text) → nth (trace_after scenario journal).pasts i ≡ Some past → state_of tag past.runs ≡ Ended (End.Done target) → version_in (scenario.race.settings i).target ≡ Some version → of_alias (scenario.race.settings i).version (opening_generations scenario.opening) ≡ None → (target ≡ (scenario.race.settings i).target) × HasFact (scenario.race.settings i).target version (facts_of_journal scenario version_in journal)
done_has_its_fact = λ s is_fresh is_sound version_in journal fair conforms.
    done_told s.race s.current s.sets (λ v raw doc. IsTrue (is_fresh v raw doc)) (λ x. IsTrue (is_sound x)) fair.laws (IsEmptyOpening s.opening) (opening_store s.current s.opening)
    (opens_well s.race s.current s.sets (λ v raw doc. IsTrue (is_fresh v raw doc)) (λ x. IsTrue (is_sound x)) fair.laws s.opening fair.opens)
    version_in (opening_generations s.opening) (found_at_opening s.opening) (well_shown s.race s.current s.sets (λ v raw doc. IsTrue (is_fresh v raw doc)) (λ x. IsTrue (is_sound x)) fair.laws s.opening fair.opens) (well_found s.race s.current s.sets (λ v raw doc. IsTrue (is_fresh v raw doc)) (λ x. IsTrue (is_sound x)) fair.laws s.opening fair.opens)
    s.instances s.scripts journal (every_sound is_sound s.scripts fair.sound) conforms
