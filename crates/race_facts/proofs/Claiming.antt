-- What a world leaves, from the facts.
use Rattle.std.proofs.Common.{◌≡◌, ◌≢◌, ℕ, zero, suc, List, [], ◌∷◌, replicate, false, Some, None, refl, sym, ◌∙◌, subst, ◌++◌, ◌+◌, ◌*◌, ◌≤◌, ◌⊎◌, true, Option, ap}
use mathlib.Core.Logic.◌⊎◌.{inl, inr}
use Rattle.base_model.specs.Keyed.{Text, at}
use Rattle.race_model.specs.Stores.{Table, Store, Rows, Index, Write, Request}
use Rattle.race_model.specs.Machines.{Settings, moved, Cause, StateName, End, Machine}
use Rattle.race_model.specs.Worlds.{Caller, callers_of, Race, Entry, Node, World, Event, nth, run, open_world}
use Rattle.race_model.specs.Journals.{open_trace, state_of, heard_of, Past, Trace, Has, MayInstance, MayMake, MayCome, Conforms, followed, all_followed}
use Rattle.race_model.specs.Sorted.{IsSorted, Each}
use Rattle.race_tables.proofs.Keys.{same_false, same_refl, at_put_same, at_put_other, NoneOn, none_on_put}
use Rattle.race_tables.proofs.Lists.{apart, Every, some_same, none_some}
use Rattle.race_model.specs.Stores.Request.{Bulk}
use Rattle.race_model.specs.Machines.Cause.{UnknownObjects, CorruptObjects, NewerObjects, OutdatedId, Collision, NewerIndex, VersionAliasMissing, LegacyIndex, OtherVersion, Leftover}
use Rattle.race_model.specs.Machines.End.{Fatal, GaveUp}
use Rattle.race_model.specs.Machines.State.{Ended}
use Rattle.race_model.specs.Generations.{Generations, of_alias}
use Rattle.race_model.specs.History.{facts_from, FoundSoFar, is_listed}
use Rattle.race_model.specs.Worlds.Actor.{Instance}
use Rattle.race_model.specs.Openings.{Opening, opening_store}
use Rattle.race_model.specs.Openings.Opening.{NoGeneration, OneGeneration}
use Rattle.race_model.specs.Premises.{Paged, NamesApart, RaceLaws}
use Rattle.race_tables.proofs.Outputs.{Is}
use Rattle.race_facts.proofs.Racing.{every_state, TraceFacts, PastFacts, EachPlace, place_at, made_cond, no_instance, trace_step, trace_run}
use Rattle.race_follow.proofs.Following.{places_at, NodeAgrees, Agrees, worlds_kept}
use Rattle.race_model.specs.Worlds.How.{Heard}
use Rattle.race_model.specs.Runs.{last_generation, IsRun}
use Rattle.race_facts.proofs.Facts.{Installed, NotYet, StoreOk, Cond, Other, CauseOk, EndOk, StateOk}
use Rattle.race_facts.proofs.Facts.Current.{Nowhere, On}
use Rattle.race_facts.proofs.Facts.Cond.{Any_ping, Any_state, Any_open, Any_read, Any_close, Any_get, Any_search, Makes_temp, Makes_target, Blocks_source, Blocks_temp, Copies, Writes, Switches, Installs}
use Rattle.race_facts.proofs.Facts.{SourceOf, TargetOk}
use Rattle.race_facts.proofs.Facts.TargetOk.{Bare, Copied}
use Rattle.race_tables.proofs.Outputs.{is_clean}
use Rattle.race_tables.proofs.Tablemaking.{whole_migrated}
use Rattle.race_facts.proofs.Opening.{opens_trace}
use Rattle.race_facts.specs.Raced.{IsInstalled, IsSource, IsMade, IsCause, Raced}

module _ {D Q C : Type 0} (race : Race D Q C) (cur : Text) (sets : List (Settings D Q)) (Fresh : Settings D Q → Text → D → Type 0) (Sound : C → Type 0) (laws : RaceLaws race cur (λ v. Has v sets) Fresh Sound) where
  abbrev In : Settings D Q → Type 0
  In v = Has v sets

  abbrev names : NamesApart cur In
  names = laws.names

  module _ (Empty : Type 0) (st : Store D) (ok : StoreOk cur In Fresh Empty st) where
    abbrev TraceOk : Trace D Q C → Type 0
    TraceOk t = TraceFacts race cur In Fresh Empty Sound t

    abbrev starts : (instances : ℕ) (scripts : List C) → Every Sound scripts → TraceOk (open_trace st instances scripts)
    starts instances scripts sound = opens_trace race cur sets Fresh Sound laws Empty st ok instances scripts sound

    -- a bulk of an instance is of its temporary index
    bulk_temp : (v : Settings D Q) (x : Store D) (ask : Request D Q) (name : Text) (ws : List (Write D)) → Cond cur In Fresh Empty v x ask → ask ≡ Bulk name ws → name ≡ v.temp
    bulk_temp v x _ name ws (Writes n F os s h w) e = cc
    bulk_temp v x _ name ws Any_ping e = absurd (cc)
    bulk_temp v x _ name ws Any_state e = absurd (cc)
    bulk_temp v x _ name ws (Any_open n) e = absurd (cc)
    bulk_temp v x _ name ws (Any_read p query) e = absurd (cc)
    bulk_temp v x _ name ws (Any_close p) e = absurd (cc)
    bulk_temp v x _ name ws (Any_get n raws) e = absurd (cc)
    bulk_temp v x _ name ws (Any_search n query) e = absurd (cc)
    bulk_temp v x _ name ws (Makes_temp n F s) e = absurd (cc)
    bulk_temp v x _ name ws (Makes_target k) e = absurd (cc)
    bulk_temp v x _ name ws (Blocks_source n g) e = absurd (cc)
    bulk_temp v x _ name ws (Blocks_temp n F s d) e = absurd (cc)
    bulk_temp v x _ name ws (Copies n h) e = absurd (cc)
    bulk_temp v x _ name ws (Switches n r) e = absurd (cc)
    bulk_temp v x _ name ws (Installs k t) e = absurd (cc)

    entry_bulk : (t : Trace D Q C) (e : Entry D Q) (i : ℕ) (name : Text) (ws : List (Write D)) → TraceOk t → MayCome race t e → e.actor ≡ Instance i → e.request ≡ Bulk name ws → name ≡ (race.settings i).temp
    unfolding MayCome
    entry_bulk t e i name ws a m q r = by (nth t.pasts i) refl (subst (λ x. MayMake race t x e.how e.tag e.request) q m.0)
      where
        by : (o : Option (Past D Q)) → nth t.pasts i ≡ o → MayInstance (race.settings i) e.how o e.tag e.request → name ≡ (race.settings i).temp
        by None f k = absurd (no_instance race cur In Fresh Empty Sound laws (race.settings i) e.how e.tag e.request k)
        by (Some past) f k = bulk_temp (race.settings i) t.store e.request name ws
            (made_cond race cur In Fresh Empty Sound laws t.store i e.how past e.tag e.request (place_at (PastFacts race cur In Fresh Empty Sound t.store) t.pasts i past a.pasts f) k) r

    entries_bulk : (t : Trace D Q C) (j : List (Entry D Q)) (e : Entry D Q) (i : ℕ) (name : Text) (ws : List (Write D)) → TraceOk t → Conforms race t j → Has e j → e.actor ≡ Instance i → e.request ≡ Bulk name ws → name ≡ (race.settings i).temp
    unfolding Conforms Has
    entries_bulk t [] e i name ws a c h q r = absurd h
    entries_bulk t (x ∷ j) e i name ws a c (inl is) q r = entry_bulk t x i name ws a c.0 (subst (λ (y : Entry D Q). y.actor ≡ Instance i) is q) (subst (λ (y : Entry D Q). y.request ≡ Bulk name ws) is r)
    entries_bulk t (x ∷ j) e i name ws a c (inr h) q r = entries_bulk (followed race t x) j e i name ws (trace_step race cur In Fresh Empty Sound laws t x a c.0) c.1 h q r

    -- an end other than giving up is told by the entries
    told_end : (t : Trace D Q C) (w : World D Q C) (i : ℕ) (node : Node D Q) (m : Machine D) (end : End) → TraceOk t → Agrees race t w → ((name : StateName) (faults : ℕ) → end ≢ GaveUp name faults) → nth w.nodes i ≡ Some node → node.machine ≡ Some m → m.state ≡ Ended end
        → EndOk cur In Fresh Empty (race.settings i) t.store end
    told_end t w i node m end a g n e f q =
        let told = places_at (NodeAgrees race) t.pasts w.nodes i node g.nodes e in
        elim (told.2.state m f) [
          | inl same ↦ subst (StateOk cur In Fresh Empty (race.settings i) t.store) (same ∙ q) (every_state (StateOk cur In Fresh Empty (race.settings i) t.store) node.starts told.0.runs tt (place_at (PastFacts race cur In Fresh Empty Sound t.store) t.pasts i told.0 a.pasts told.1).runs)
          | inr gave ↦ absurd (n gave.0 gave.1 (let x : Ended end ≡ Ended (GaveUp gave.0 gave.1) = sym q ∙ gave.2 in cc))
        ]

    is_other : (x : Store D) (n : Text) → Other cur In Fresh Empty x n → IsInstalled sets x n
    is_other x n o = record { set = o.set; is_in = o.is_in; name = o.name; installed = o.installed ∙ ap (λ z. Some z) (sym o.name) }

    is_cause : (v : Settings D Q) (x : Store D) (c : Cause) → CauseOk cur In Fresh Empty v x c → IsCause sets v x c
    is_cause v x (UnknownObjects raws) k = k
    is_cause v x (CorruptObjects raws) k = k
    is_cause v x (NewerObjects raws) k = k
    is_cause v x (Collision first second raw) k = k
    is_cause v x (NewerIndex n) k = (k.0, is_other x n k.1)
    is_cause v x (OtherVersion (Some n)) k = (k.0, is_other x n k.1)
    is_cause v x (OtherVersion None) k = absurd k
    is_cause v x (Leftover n its from) k = k
    is_cause v x (OutdatedId raws) k = absurd k
    is_cause v x (VersionAliasMissing n) k = absurd k
    is_cause v x (LegacyIndex n) k = absurd k
    is_cause v x (Cause.NameTaken n) k = absurd k

    is_source : (v : Settings D Q) (x : Store D) (n : Text) (F : Table D) → SourceOf In v x n F → IsSource sets v x n F
    is_source v x n F s = record {
      installed = record { set = s.ground.set; is_in = s.ground.is_in; name = s.ground.name; installed = s.ground.installed ∙ ap (λ z. Some z) (sym s.ground.name) };
      not_later = s.ground.not_later;
      not_same = s.ground.not_same;
      index = s.blocked.index;
      there = s.blocked.there;
      blocked = s.blocked.blocked;
      table_is = s.blocked.table;
    }

    is_made : (v : Settings D Q) (x : Store D) (ix : Index D) → TargetOk cur In Fresh Empty v x ix → IsMade sets Empty v x ix
    is_made v x ix (Bare e is) = inl (e, is)
    is_made v x ix (Copied m) = inr (record {
      source = m.source;
      table = m.table;
      from = is_source v x m.source m.table m.ground;
      clean = is_clean v m.table.rows m.whole.clean;
      is = m.is ∙ ap (λ t. record { blocked = false; source = Some m.source; table = t }) (whole_migrated v m.table.rows m.copied m.whole);
    })

    pub worlds_raced : (instances : ℕ) (scripts : List C) (events : List Event) → Every Sound scripts → Raced race sets Empty (run race (open_world st instances scripts) events)
    worlds_raced instances scripts events sound =
        let k = worlds_kept race st instances scripts events in
        let w : World D Q C = run race (open_world st instances scripts) events in
        let t0 : Trace D Q C = open_trace st instances scripts in
        let a0 : TraceOk t0 = starts instances scripts sound in
        let t : Trace D Q C = all_followed race t0 w.journal in
        let a : TraceOk t = trace_run race cur In Fresh Empty Sound laws t0 w.journal a0 k.conforms in
        record {
          done = λ i node m target e f q. let o = told_end t w i node m (End.Done target) a k.agrees (λ n z x. cc) e f q in (o.0, rw (← k.agrees.store, o.0) o.1);
          causes = λ i node m cause e f q. rw (← k.agrees.store) (is_cause (race.settings i) t.store cause (told_end t w i node m (Fatal cause) a k.agrees (λ n z x. cc) e f q));
          bulks = λ e i name ws h q r. let is : name ≡ (race.settings i).temp = entries_bulk t0 w.journal e i name ws a0 k.conforms h q r in (is, λ v j z. names.target_temp v (race.settings i) j (laws.runs i) (sym z ∙ is));
          made = λ v j not ix e. rw (← k.agrees.store) (is_made v t.store ix (a.store.targets v j (rw k.agrees.store not) ix (rw k.agrees.store e)));
          temporary = λ v j not ix e. rw (← k.agrees.store) (let o = a.store.temps v j (rw k.agrees.store not) ix (rw k.agrees.store e) in record { source = o.source; table = o.table; from = is_source v t.store o.source o.table o.ground; of = o.from; outputs = o.only });
        }
