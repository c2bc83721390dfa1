-- The laws of a scenario, for any fresh documents and sound clients, as lemmas.
use Rattle.std.proofs.Common.{◌≡◌, ◌≢◌, ℕ, false, List, [], ◌∷◌, ◌++◌, Option, Some, None, sym, ◌∙◌, subst}
use Rattle.base_model.specs.Keyed.{Text, at}
use Rattle.race_model.specs.Stores.{Rows}
use Rattle.race_model.specs.Machines.{Settings, Cause, Machine, moved}
use Rattle.race_model.specs.Machines.State.{Init, Ended}
use Rattle.race_model.specs.Machines.End.{Fatal}
use Rattle.race_model.specs.Generations.{Generations}
use Rattle.race_model.specs.History.{found_after_all}
use Rattle.race_model.specs.Worlds.{Entry, Event, Node, nth}
use Rattle.race_model.specs.Worlds.Actor.{Instance}
use Rattle.race_model.specs.Worlds.How.{Heard}
use Rattle.race_model.specs.Journals.{Has, Past, Trace, Conforms, state_of, heard_of, all_followed}
use Rattle.race_model.specs.Openings.{Opening, Scenario, IsEmptyOpening, opening_store, opening_generations, found_at_opening, first_trace, IsJournal, world_after, trace_after, facts_since}
use Rattle.race_model.specs.Openings.Opening.{NoGeneration, OneGeneration}
use Rattle.race_model.specs.Premises.{IsOpening, Paged, RaceLaws}
use Rattle.race_tables.proofs.Lists.{Every}
use Rattle.race_follow.proofs.Following.{worlds_kept}
use Rattle.race_facts.proofs.Facts.{StoreOk}
use Rattle.race_facts.proofs.Racing.{TraceFacts, trace_run}
use Rattle.race_facts.proofs.Opening.{opens_well, opens_trace}
use Rattle.race_history.proofs.Histories.{Shows, FoundOk}
use Rattle.race_history.proofs.Opening.{well_shown, well_found}
use Rattle.race_bound.proofs.Owning.{Owner}
use Rattle.race_bound.proofs.Bounding.{Owned, owned_run, none_owned}
use Rattle.race_claims.specs.Shown.{IsShown}
use Rattle.race_claims.specs.OneVersion.{IsAbove, IsOneVersion, IsByDocuments}
use Rattle.race_claims.specs.Unfailing.{HasFailed}
use Rattle.race_claims.specs.Unhindered.{IsOwn, FindsUnknown, IsUnhindered, GoesWell}
use Rattle.race_claims.proofs.Claiming.{causes_shown}
use Rattle.race_claims.proofs.Starting.{conforms_front, conforms_back, followed_append}
use Rattle.race_claims.proofs.Ending.{found_run, goes_well}
use Rattle.race_claims.proofs.OneVersion.{OpeningSet, opening_one, nobody_fails}
use Rattle.race_claims.proofs.OneClaim.{OneTrace, one_run, one_world}
use Rattle.race_claims.proofs.Unfailing.{unfailing}

firsts_below : {D Q : Type 0} (v : Settings D Q) (o : Opening D Q) → IsAbove v o → (u : Settings D Q) → OpeningSet o u → (v.is_later u.target ≡ false) × (v.is_same u.target ≡ false)
firsts_below v NoGeneration a u f = absurd f
firsts_below v (OneGeneration first table) a u f = subst (λ z. (v.is_later z.target ≡ false) × (v.is_same z.target ≡ false)) (sym f) a

firsts_one : {D Q : Type 0} (o : Opening D Q) (a b : Settings D Q) → OpeningSet o a → OpeningSet o b → a ≡ b
firsts_one NoGeneration a b f g = absurd f
firsts_one (OneGeneration first table) a b f g = f ∙ sym g

firsts_none : {D Q : Type 0} (o : Opening D Q) → IsEmptyOpening o → (u : Settings D Q) → OpeningSet o u → ⊥
firsts_none NoGeneration e u f = f
firsts_none (OneGeneration first table) e u f = e

firsts_some : {D Q : Type 0} (o : Opening D Q) (u : Settings D Q) → OpeningSet o u → o ≢ NoGeneration
firsts_some o u f e = subst (λ z. OpeningSet z u) e f

module _ {D Q C : Type 0} (s : Scenario D Q C) (Fresh : Settings D Q → Text → D → Type 0) (Sound : C → Type 0) (laws : RaceLaws s.race s.current (λ v. Has v s.sets) Fresh Sound)
    (opens : IsOpening s.sets Fresh s.opening) (sound : Every Sound s.scripts) where
  abbrev In : Settings D Q → Type 0
  In v = Has v s.sets

  abbrev Empty : Type 0
  Empty = IsEmptyOpening s.opening

  ok : StoreOk s.current In Fresh Empty (opening_store s.current s.opening)
  ok = opens_well s.race s.current s.sets Fresh Sound laws s.opening opens

  begin : TraceFacts s.race s.current In Fresh Empty Sound (first_trace s)
  begin = opens_trace s.race s.current s.sets Fresh Sound laws Empty (opening_store s.current s.opening) ok s.instances s.scripts sound

  pub causes : (journal : List (Entry D Q)) (e : Entry D Q) → IsJournal s (journal ++ e ∷ []) → (i : ℕ) (past : Past D Q) (cause : Cause) → e.actor ≡ Instance i → e.how ≡ Heard → nth (trace_after s journal).pasts i ≡ Some past
      → moved (s.race.settings i) (state_of e.tag past.runs) e.reply ≡ Ended (Fatal cause) → IsShown s.race.select s.current (s.race.settings i) (trace_after s journal).store (state_of e.tag past.runs) cause
  causes journal e conforms = causes_shown s.race s.current s.sets Fresh Sound laws Empty (opening_store s.current s.opening) ok s.instances s.scripts journal e sound conforms

  -- a start that nothing stands against
  module _ (version_in : Text → Option Text) (knows : (v : Settings D Q) → In v → (version : Text) × (version_in v.target ≡ Some version)) (pages : ℕ → Rows D → ℕ) (paged : (j : ℕ) → Paged s.race.select (s.race.settings j) (pages j)) where
    pub goes : (before after : List (Entry D Q)) (first : Entry D Q) (i tag : ℕ) (start past : Past D Q) → FindsUnknown s.race.select (s.race.settings i) → IsJournal s (before ++ first ∷ after) → IsOwn i tag first
        → nth (trace_after s before).pasts i ≡ Some start → state_of tag start.runs ≡ Init
        → IsUnhindered s.race i tag (s.race.settings i) (facts_since s version_in before (first ∷ after)) (trace_after s before) (first ∷ after) (at s.current (trace_after s before).store.aliases)
        → nth (trace_after s (before ++ first ∷ after)).pasts i ≡ Some past
        → GoesWell (pages i) (s.race.settings i) (trace_after s (before ++ first ∷ after)).store (at s.current (trace_after s before).store.aliases) (heard_of tag past.runs) (state_of tag past.runs)
    goes before after first i tag start past find conforms own there init unhindered there_later =
        subst (λ (x : Trace D Q C). GoesWell (pages i) (s.race.settings i) x.store (at s.current (trace_after s before).store.aliases) (heard_of tag past.runs) (state_of tag past.runs)) (sym same_trace)
        (goes_well s.race s.current In Fresh Empty Sound laws version_in knows pages paged i tag find r.0 (found_after_all s.current (found_at_opening s.opening) before) o.0 (trace_after s before) first after start r.1 r.2 facts o.1 own there init back unhindered past
        (subst (λ (x : Trace D Q C). nth x.pasts i ≡ Some past) same_trace there_later))
      where
        front : Conforms s.race (first_trace s) before
        front = conforms_front s.race (first_trace s) before (first ∷ after) conforms

        back : Conforms s.race (trace_after s before) (first ∷ after)
        back = conforms_back s.race (first_trace s) before (first ∷ after) conforms

        facts : TraceFacts s.race s.current In Fresh Empty Sound (trace_after s before)
        facts = trace_run s.race s.current In Fresh Empty Sound laws (first_trace s) before begin front

        o : (o : Owner) × Owned s.race s.current In Fresh Empty Sound laws pages paged o (trace_after s before)
        o = owned_run s.race s.current In Fresh Empty Sound laws pages paged (λ p. None) (first_trace s) before begin
            (none_owned s.race s.current In Fresh Empty Sound laws pages paged s.instances (opening_store s.current s.opening) s.scripts) front

        r : (last : Generations D) × Shows s.current In last (trace_after s before).store × FoundOk In (found_after_all s.current (found_at_opening s.opening) before) last
        r = found_run s.race s.current In Fresh Empty Sound laws version_in knows pages paged i tag find (opening_generations s.opening) (found_at_opening s.opening) (first_trace s) before
            (well_shown s.race s.current s.sets Fresh Sound laws s.opening opens) (well_found s.race s.current s.sets Fresh Sound laws s.opening opens) begin front

        same_trace : trace_after s (before ++ first ∷ after) ≡ all_followed s.race (trace_after s before) (first ∷ after)
        same_trace = followed_append s.race (first_trace s) before (first ∷ after)

    -- the same of a world, for a start none of whose sends failed
    pub machine_goes : (events : List Event) (before after : List (Entry D Q)) (first : Entry D Q) (i : ℕ) (start : Past D Q) (node : Node D Q) (m : Machine D) → FindsUnknown s.race.select (s.race.settings i)
        → nth (world_after s events).nodes i ≡ Some node → node.machine ≡ Some m → (HasFailed node.starts node.sent → ⊥) → (world_after s events).journal ≡ before ++ first ∷ after
        → IsOwn i node.starts first → nth (trace_after s before).pasts i ≡ Some start → state_of node.starts start.runs ≡ Init
        → IsUnhindered s.race i node.starts (s.race.settings i) (facts_since s version_in before (first ∷ after)) (trace_after s before) (first ∷ after) (at s.current (trace_after s before).store.aliases)
        → (heard : ℕ) × GoesWell (pages i) (s.race.settings i) (world_after s events).store (at s.current (trace_after s before).store.aliases) heard m.state
    machine_goes events before after first i start node m find there is unfailed journal own begun init unhindered =
        let w = worlds_kept s.race (opening_store s.current s.opening) s.instances s.scripts events in
        let told = unfailing s.race (opening_store s.current s.opening) s.instances s.scripts events (trace_after s (world_after s events).journal) w.agrees i node m there is unfailed in
        let well = goes before after first i node.starts start told.0 find (subst (IsJournal s) journal w.conforms) own begun init unhindered
        (subst (λ j. nth (trace_after s j).pasts i ≡ Some told.0) journal told.1) in (
          heard_of node.starts told.0.runs,
          subst (GoesWell (pages i) (s.race.settings i) (world_after s events).store (at s.current (trace_after s before).store.aliases) (heard_of node.starts told.0.runs)) told.2
              (subst (λ x. GoesWell (pages i) (s.race.settings i) x (at s.current (trace_after s before).store.aliases) (heard_of node.starts told.0.runs) (state_of node.starts told.0.runs)) (subst (λ j. (trace_after s j).store ≡ (world_after s events).store) journal w.agrees.store) well),
        )

  -- where every instance is of one version
  module _ (v : Settings D Q) (single : IsOneVersion s v) where
    abbrev One : Trace D Q C → Type 0
    One t = OneTrace s.race s.current In Fresh Empty Sound laws v single.all (OpeningSet s.opening) (firsts_below v s.opening single.above) (firsts_one s.opening) (firsts_none s.opening) t

    opens_one : One (first_trace s)
    opens_one = record {
      facts = begin;
      store = opening_one s.race s.current s.sets Fresh Sound laws v (subst (λ u. Has u s.sets) (single.all 0) (laws.runs 0)) s.opening opens single.above;
      by = λ i tag past cause there ends. absurd (nobody_fails s.instances i tag past cause there ends);
    }

    one_after : (journal : List (Entry D Q)) → IsJournal s journal → One (trace_after s journal)
    one_after journal conforms = one_run s.race s.current In Fresh Empty Sound laws v single.all (OpeningSet s.opening) (firsts_below v s.opening single.above) (firsts_one s.opening) (firsts_none s.opening) (first_trace s) journal opens_one conforms

    pub fails_by_documents : (journal : List (Entry D Q)) → IsJournal s journal → (i tag : ℕ) (past : Past D Q) (cause : Cause) → nth (trace_after s journal).pasts i ≡ Some past → state_of tag past.runs ≡ Ended (Fatal cause) → IsByDocuments cause × (s.opening ≢ NoGeneration)
    fails_by_documents journal conforms i tag past cause there ends =
        let k = (one_after journal conforms).by i tag past cause there ends in
        (k.0, firsts_some s.opening k.1 k.2)

    pub machine_fails_by_documents : (events : List Event) (i : ℕ) (node : Node D Q) (m : Machine D) (cause : Cause) → nth (world_after s events).nodes i ≡ Some node → node.machine ≡ Some m → m.state ≡ Ended (Fatal cause) → IsByDocuments cause × (s.opening ≢ NoGeneration)
    machine_fails_by_documents events i node m cause there is ends =
        let w = worlds_kept s.race (opening_store s.current s.opening) s.instances s.scripts events in
        let k = one_world s.race s.current In Fresh Empty Sound laws v single.all (OpeningSet s.opening) (firsts_below v s.opening single.above) (firsts_one s.opening) (firsts_none s.opening)
        (trace_after s (world_after s events).journal) (world_after s events) (one_after (world_after s events).journal w.conforms) w.agrees i node m cause there is ends in
        (k.0, firsts_some s.opening k.1 k.2)
