-- A cause is shown by the store at the entry that brings it.
use Rattle.std.proofs.Common.{◌≡◌, ℕ, List, [], ◌∷◌, Some, subst, ◌++◌}
use Rattle.base_model.specs.Keyed.{Text}
use Rattle.race_model.specs.Stores.{Store}
use Rattle.race_model.specs.Machines.{Settings, moved, Cause}
use Rattle.race_model.specs.Worlds.{Race, Entry, nth}
use Rattle.race_model.specs.Journals.{open_trace, state_of, Past, Trace, Has, MayInstance, MayMake, MayCome, Conforms, followed, all_followed}
use Rattle.race_tables.proofs.Lists.{Every}
use Rattle.race_model.specs.Machines.End.{Fatal}
use Rattle.race_model.specs.Machines.State.{Ended}
use Rattle.race_model.specs.Worlds.Actor.{Instance}
use Rattle.race_model.specs.Premises.{NamesApart, RaceLaws}
use Rattle.race_facts.proofs.Racing.{every_state, TraceFacts, PastFacts, place_at, trace_run}
use Rattle.race_model.specs.Worlds.How.{Heard}
use Rattle.race_facts.proofs.Facts.{StoreOk, StateOk}
use Rattle.race_facts.proofs.Opening.{opens_trace}
use Rattle.race_claims.specs.Shown.{IsShown}
use Rattle.race_claims.proofs.Showing.{cause_shown}
use Rattle.race_model.specs.Worlds.Actor.{Instance}
use Rattle.race_model.specs.Worlds.How.{Heard}
use Rattle.race_model.specs.Machines.{moved}
use Rattle.race_model.specs.Journals.{MayInstance, MayMake, MayCome, Conforms, state_of}

module _ {D Q C : Type 0} (race : Race D Q C) (cur : Text) (sets : List (Settings D Q)) (Fresh : Settings D Q → Text → D → Type 0) (Sound : C → Type 0) (laws : RaceLaws race cur (λ v. Has v sets) Fresh Sound) where
  abbrev In : Settings D Q → Type 0
  In v = Has v sets

  abbrev names : NamesApart cur In
  names = laws.names

  module _ (Empty : Type 0) (st : Store D) (ok : StoreOk cur In Fresh Empty st) where
    abbrev TraceOk : Trace D Q C → Type 0
    TraceOk t = TraceFacts race cur In Fresh Empty Sound t

    abbrev starts : (instances : ℕ) (scripts : List C) → Every Sound scripts → TraceOk (open_trace st instances scripts)
    starts instances scripts sound = opens_trace race cur sets Fresh Sound laws Empty st ok instances scripts sound

    pub split_last : (t : Trace D Q C) (j : List (Entry D Q)) (e : Entry D Q) → Conforms race t (j ++ e ∷ []) → Conforms race t j × MayCome race (all_followed race t j) e
    unfolding Conforms all_followed
    split_last t [] e c = (tt, c.0)
    split_last t (x ∷ j) e c = let r = split_last (followed race t x) j e c.1 in ((c.0, r.0), r.1)

    -- a cause is shown by the store at the entry that brings it
    pub causes_shown : (instances : ℕ) (scripts : List C) (j : List (Entry D Q)) (e : Entry D Q) → Every Sound scripts → Conforms race (open_trace st instances scripts) (j ++ e ∷ [])
        → (i : ℕ) (past : Past D Q) (cause : Cause) → e.actor ≡ Instance i → e.how ≡ Heard → nth (all_followed race (open_trace st instances scripts) j).pasts i ≡ Some past → moved (race.settings i) (state_of e.tag past.runs) e.reply ≡ Ended (Fatal cause)
        → IsShown race.select cur (race.settings i) (all_followed race (open_trace st instances scripts) j).store (state_of e.tag past.runs) cause
    unfolding MayCome
    causes_shown instances scripts j e sound c i past cause actor how here ends =
        let t0 : Trace D Q C = open_trace st instances scripts in
        let r = split_last t0 j e c in
        let t : Trace D Q C = all_followed race t0 j in
        let a : TraceOk t = trace_run race cur In Fresh Empty Sound laws t0 j (starts instances scripts sound) r.0 in
        let may : MayInstance (race.settings i) Heard (Some past) e.tag e.request = subst (λ o. MayInstance (race.settings i) Heard o e.tag e.request) here (subst (λ h. MayInstance (race.settings i) h (nth t.pasts i) e.tag e.request) how (subst (λ x. MayMake race t x e.how e.tag e.request) actor r.1.0)) in
        cause_shown race cur In Fresh Empty Sound laws (race.settings i) (laws.runs i) (laws.not_outdated i) t.store (state_of e.tag past.runs) e.request cause a.store
        (every_state (StateOk cur In Fresh Empty (race.settings i) t.store) e.tag past.runs tt (place_at (PastFacts race cur In Fresh Empty Sound t.store) t.pasts i past a.pasts here).runs) may.1
        (subst (λ reply. moved (race.settings i) (state_of e.tag past.runs) reply ≡ Ended (Fatal cause)) r.1.1 ends)
