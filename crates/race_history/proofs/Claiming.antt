-- Each journal is a run, and who is done has its version's fact.
use Rattle.std.proofs.Common.{◌≡◌, ℕ, List, Some, None, refl, ◌∙◌, subst, Option}
use Rattle.base_model.specs.Keyed.{Text}
use Rattle.race_model.specs.Stores.{Store}
use Rattle.race_model.specs.Machines.{Settings, End}
use Rattle.race_model.specs.Worlds.{Race, Entry, nth}
use Rattle.race_model.specs.Journals.{open_trace, state_of, Past, Trace, Has, Conforms, all_followed}
use Rattle.race_tables.proofs.Lists.{Every, none_some}
use Rattle.race_model.specs.Machines.State.{Ended}
use Rattle.race_model.specs.Generations.{Generations, of_alias}
use Rattle.race_model.specs.History.{facts_from, FoundSoFar}
use Rattle.race_model.specs.Premises.{NamesApart, RaceLaws}
use Rattle.race_tables.proofs.Outputs.{Is}
use Rattle.race_facts.proofs.Racing.{every_state, TraceFacts, PastFacts, place_at, trace_run}
use Rattle.race_model.specs.Runs.{IsRun}
use Rattle.race_facts.proofs.Facts.{StoreOk, EndOk, StateOk}
use Rattle.race_facts.proofs.Opening.{opens_trace}
use Rattle.race_history.proofs.Histories.{Shows, FoundOk}
use Rattle.race_history.proofs.Telling.{runs}
use Rattle.race_history.proofs.Ending.{run_told}
use Rattle.race_history.specs.Generated.{HasFact, AreShown}
use Rattle.race_model.specs.Runs.{IsRun}

module _ {D Q C : Type 0} (race : Race D Q C) (cur : Text) (sets : List (Settings D Q)) (Fresh : Settings D Q → Text → D → Type 0) (Sound : C → Type 0) (laws : RaceLaws race cur (λ v. Has v sets) Fresh Sound) where
  abbrev In : Settings D Q → Type 0
  In v = Has v sets

  abbrev names : NamesApart cur In
  names = laws.names

  module _ (Empty : Type 0) (st : Store D) (ok : StoreOk cur In Fresh Empty st) where
    abbrev TraceOk : Trace D Q C → Type 0
    TraceOk t = TraceFacts race cur In Fresh Empty Sound t

    abbrev starts : (instances : ℕ) (scripts : List C) → Every Sound scripts → TraceOk (open_trace st instances scripts)
    starts instances scripts sound = opens_trace race cur sets Fresh Sound laws Empty st ok instances scripts sound

    pub journal_runs : (version_in : Text → Option Text) (gs : Generations D) (f : FoundSoFar) → Shows cur In gs st → FoundOk In f gs → (instances : ℕ) (scripts : List C) (j : List (Entry D Q)) → Every Sound scripts → Conforms race (open_trace st instances scripts) j
        → (last : Generations D) × IsRun race cur version_in f gs j last × AreShown sets last (all_followed race (open_trace st instances scripts) j).store
    journal_runs version_in gs f s k instances scripts j sound c =
        let r = runs race cur In Fresh Empty Sound laws version_in gs f (open_trace st instances scripts) j s k (starts instances scripts sound) c in
        (r.0, r.1, r.2.each)

    -- whoever is done has its version's fact, where the opening had no generation of it
    pub done_told : (version_in : Text → Option Text) (gs : Generations D) (f : FoundSoFar) → Shows cur In gs st → FoundOk In f gs → (instances : ℕ) (scripts : List C) (j : List (Entry D Q)) → Every Sound scripts → Conforms race (open_trace st instances scripts) j
        → (i : ℕ) (past : Past D Q) (tag : ℕ) (target ver : Text) → nth (all_followed race (open_trace st instances scripts) j).pasts i ≡ Some past → state_of tag past.runs ≡ Ended (End.Done target)
        → version_in (race.settings i).target ≡ Some ver → of_alias (race.settings i).version gs ≡ None
        → (target ≡ (race.settings i).target) × HasFact (race.settings i).target ver (facts_from cur version_in f j)
    done_told version_in gs f s k instances scripts j sound c i past tag target ver e q v none =
        let t0 : Trace D Q C = open_trace st instances scripts in
        let a0 : TraceOk t0 = starts instances scripts sound in
        let t : Trace D Q C = all_followed race t0 j in
        let a : TraceOk t = trace_run race cur In Fresh Empty Sound laws t0 j a0 c in
        let o : EndOk cur In Fresh Empty (race.settings i) t.store (End.Done target) = subst (StateOk cur In Fresh Empty (race.settings i) t.store) q
        (every_state (StateOk cur In Fresh Empty (race.settings i) t.store) tag past.runs tt (place_at (PastFacts race cur In Fresh Empty Sound t.store) t.pasts i past a.pasts e).runs) in
        let r = runs race cur In Fresh Empty Sound laws version_in gs f t0 j s k a0 c in
        let there : Is t.store.indices (race.settings i).target = a.store.there (race.settings i) (laws.runs i) o.1 in
        let found : of_alias (race.settings i).version r.0 ≡ Some (record { alias = (race.settings i).version; index = (race.settings i).target; blocked = there.0.blocked; table = there.0.table }) = r.2.each (race.settings i) (laws.runs i) ∙ rw (o.1, there.1) refl in
        (o.0, run_told race cur In Fresh Sound laws version_in (race.settings i) (laws.runs i) ver v f gs r.0 j r.1 none (λ z. none_some _ (of_alias (race.settings i).version r.0) z found))
