-- The laws of a rollout, as lemmas.
use Rattle.std.proofs.Common.{◌≡◌, ◌≢◌, ◌<◌, ◌≤◌, ◌⊎◌, ℕ, zero, suc, ◌+◌, ◌-◌, ◌*◌, ◌/◌, Bool, true, false, Option, Some, None, List, [], ◌∷◌, ◌++◌, length, take, drop, refl, sym, ◌∙◌, ap, subst, arith, nat_le, if◌then◌else◌}
use Rattle.std.proofs.lemmas.Bool.Decides.{nat_tests}
use Rattle.std.proofs.lemmas.List.{length-drop, take-append-drop}
use Rattle.std.proofs.Math.Nat.{add-div_right, div-eq_of_lt, div-mul-le_self, zero-lt-suc}
use Rattle.std.proofs.lemmas.Nat.{le-div}
use mathlib.Core.Logic.◌⊎◌.{inl, inr}
use Rattle.base_model.specs.Keyed.{Text, same, at}
use Rattle.race_model.specs.Stores.{Rows, empty_table}
use Rattle.race_model.specs.Machines.{Settings, Cause, End, Machine, moved}
use Rattle.race_model.specs.Machines.State.{Init, Ended}
use Rattle.race_model.specs.Machines.End.{Fatal}
use Rattle.race_model.specs.Generations.{Generation, Generations, of_alias, new_generation}
use Rattle.race_model.specs.Worlds.{Entry, Event, Node, nth}
use Rattle.race_model.specs.Worlds.Actor.{Instance}
use Rattle.race_model.specs.Worlds.How.{Heard}
use Rattle.race_model.specs.Journals.{Has, Past, state_of, heard_of}
use Rattle.race_model.specs.Sorted.{Each}
use Rattle.race_model.specs.Premises.{IsOpening, Paged}
use Rattle.race_model.specs.Runs.{IsRun}
use Rattle.race_model.specs.Openings.{Scenario, IsEmptyOpening, opening_store, opening_generations, found_at_opening, IsJournal, world_after, trace_after, facts_of_journal, facts_since}
use Rattle.race_model.specs.Openings.Opening.{NoGeneration}
use Rattle.race_facts.specs.Raced.{Raced}
use Rattle.race_facts.proofs.Opening.{opens_well}
use Rattle.race_facts.proofs.Claiming.{worlds_raced}
use Rattle.race_history.specs.Generated.{AreShown, HasFact}
use Rattle.race_history.proofs.Opening.{well_shown, well_found}
use Rattle.race_history.proofs.Claiming.{journal_runs, done_told}
use Rattle.race_bound.specs.Short.{AllShort}
use Rattle.race_bound.proofs.Claiming.{starts_short}
use Rattle.race_claims.specs.Shown.{IsShown}
use Rattle.race_claims.specs.OneVersion.{IsAbove, IsOneVersion, IsByDocuments}
use Rattle.race_claims.specs.Unfailing.{HasFailed}
use Rattle.race_claims.specs.Unhindered.{IsOwn, IsUnhindered, GoesWell}
use Rattle.race_claims.proofs.Scenarios.{goes, machine_goes, fails_by_documents, machine_fails_by_documents}
use Rattle.race_claims.proofs.Scenarios as scenario
use Rattle.version_token.specs.declared.Ver.{Ver}
use Rattle.document_model.specs.Documents.{ver_lt, Doc}
use Rattle.query_model.specs.Queries.{Query, select}
use Rattle.call_model.specs.Scripts.{Script}
use Rattle.call_model.specs.History.{IsLegal, stood_before}
use Rattle.call_model.specs.Upgrades.{is_above, is_that, TargetSet, settings_of, Start, Rollout, opening_of, scenario_of, named_version, text_of}
use Rattle.call_model.specs.Upgrades.Start.{Empty, Holding}
use Rattle.call_laws.specs.Meanings.{Numbered}
use Rattle.call_effects.proofs.Versions.{lt_trans}
use Rattle.call_effects.proofs.Fitting.{ver_self}
use Rattle.call_history.proofs.Growing.{AllNumbered}
use Rattle.call_history.proofs.Planned.{plans}
use Rattle.call_history.proofs.Standing.{none_yet}
use Rattle.call_history.proofs.Legality.{legal_run, all_begin}
use Rattle.upgrade_laws.specs.Premises.{StartsWell, AllBegin, IsRollout, StartsBelow, IsOfOneSet, pages_by}
use Rattle.upgrade_laws.proofs.Checking.{finds_unknown}
use Rattle.upgrade_laws.proofs.Selecting.{page_take}
use Rattle.upgrade_laws.proofs.Rolling.{names, In, Fresh, Sound, in_is, in_of, laws, all_sound}

module _ {A O F : Type 0} (r : Rollout A O F) (is : IsRollout r) where
  abbrev s : Scenario (Doc A) (Query F) (Script A O)
  s = scenario_of r

  abbrev version_in : Text → Option Text
  version_in = named_version r.names

  -- no document of the opening is outdated for an instance, since none has the opening's set
  vacuous : (set : TargetSet O) → Has set r.sets → ((i : ℕ) → r.set_of i ≢ set) → (rows : Rows (Doc A)) → Each (Fresh r is (settings_of r.words r.names set)) rows
  unfolding Each
  vacuous set h n [] = tt
  vacuous set h n (x ∷ rows) = (λ i e. absurd (n i (Rattle.upgrade_laws.proofs.Rolling.same_set r is (r.set_of i) set (is.runs i) h e)), vacuous set h n rows)

  opens : IsOpening s.sets (Fresh r is) s.opening
  opens = by r.start is.start
    where
      by : (o : Start A O) → StartsWell r.sets r.set_of o → IsOpening s.sets (Fresh r is) (opening_of r.words r.names o)
      by Empty w = tt
      by (Holding set table) w = (in_is r is r.sets set w.0, w.2, vacuous set w.0 w.1 table.rows)

  pub raced : (events : List Event) → Raced s.race s.sets (IsEmptyOpening s.opening) (world_after s events)
  raced events =
      worlds_raced s.race s.current s.sets (Fresh r is) (Sound r is) (laws r is) (IsEmptyOpening s.opening) (opening_store s.current s.opening)
      (opens_well s.race s.current s.sets (Fresh r is) (Sound r is) (laws r is) s.opening opens) s.instances s.scripts events (all_sound r is r.scripts is.scripts)

  pub is_run : (journal : List (Entry (Doc A) (Query F))) → IsJournal s journal → (last : Generations (Doc A)) × IsRun s.race s.current version_in (found_at_opening s.opening) (opening_generations s.opening) journal last × AreShown s.sets last (trace_after s journal).store
  is_run journal conforms =
      journal_runs s.race s.current s.sets (Fresh r is) (Sound r is) (laws r is) (IsEmptyOpening s.opening) (opening_store s.current s.opening)
      (opens_well s.race s.current s.sets (Fresh r is) (Sound r is) (laws r is) s.opening opens)
      version_in (opening_generations s.opening) (found_at_opening s.opening) (well_shown s.race s.current s.sets (Fresh r is) (Sound r is) (laws r is) s.opening opens)
      (well_found s.race s.current s.sets (Fresh r is) (Sound r is) (laws r is) s.opening opens)
      s.instances s.scripts journal (all_sound r is r.scripts is.scripts) conforms

  pub done_named : (journal : List (Entry (Doc A) (Query F))) → IsJournal s journal → (i : ℕ) (past : Past (Doc A) (Query F)) (tag : ℕ) (target : Text) → nth (trace_after s journal).pasts i ≡ Some past → state_of tag past.runs ≡ Ended (End.Done target)
      → (target ≡ (s.race.settings i).target) × HasFact (s.race.settings i).target (r.names.text (r.set_of i).registry.version) (facts_of_journal s version_in journal)
  unfolding of_alias
  done_named journal conforms i past tag target here ended =
      done_told s.race s.current s.sets (Fresh r is) (Sound r is) (laws r is) (IsEmptyOpening s.opening) (opening_store s.current s.opening)
      (opens_well s.race s.current s.sets (Fresh r is) (Sound r is) (laws r is) s.opening opens)
      version_in (opening_generations s.opening) (found_at_opening s.opening) (well_shown s.race s.current s.sets (Fresh r is) (Sound r is) (laws r is) s.opening opens)
      (well_found s.race s.current s.sets (Fresh r is) (Sound r is) (laws r is) s.opening opens)
      s.instances s.scripts journal (all_sound r is r.scripts is.scripts) conforms i past tag target (r.names.text (r.set_of i).registry.version) here ended
      (ap (text_of r.names.text) ((names r is).version_named (r.set_of i) (is.runs i))) (none_of r.start is.start)
    where
      none_of : (o : Start A O) → StartsWell r.sets r.set_of o → of_alias (s.race.settings i).version (opening_generations (opening_of r.words r.names o)) ≡ None
      none_of Empty w = refl
      none_of (Holding set table) w = by (same (s.race.settings i).version (settings_of r.words r.names set).version) refl
        where
          by : (b : Bool) → same (s.race.settings i).version (settings_of r.words r.names set).version ≡ b → of_alias (s.race.settings i).version (opening_generations (opening_of r.words r.names (Holding set table))) ≡ None
          by true e = absurd (w.1 i (Rattle.upgrade_laws.proofs.Rolling.same_alias r is (r.set_of i) set (is.runs i) w.0 (Rattle.race_tables.proofs.Keys.same_true (s.race.settings i).version (settings_of r.words r.names set).version e)))
          by false e = rw e refl

  pub causes : (journal : List (Entry (Doc A) (Query F))) (e : Entry (Doc A) (Query F)) → IsJournal s (journal ++ e ∷ []) → (i : ℕ) (past : Past (Doc A) (Query F)) (cause : Cause) → e.actor ≡ Instance i → e.how ≡ Heard → nth (trace_after s journal).pasts i ≡ Some past
      → moved (s.race.settings i) (state_of e.tag past.runs) e.reply ≡ Ended (Fatal cause) → IsShown s.race.select s.current (s.race.settings i) (trace_after s journal).store (state_of e.tag past.runs) cause
  causes journal e conforms = scenario.causes s (Fresh r is) (Sound r is) (laws r is) opens (all_sound r is r.scripts is.scripts) journal e conforms

  -- legal

  numbered : AllNumbered (opening_generations s.opening)
  unfolding of_alias
  numbered = by r.start is.start
    where
      by : (o : Start A O) → StartsWell r.sets r.set_of o → AllNumbered (opening_generations (opening_of r.words r.names o))
      by Empty w = record { each = λ name g e. absurd (cc) }
      by (Holding set table) w = record { each = λ name g e. one (same name (settings_of r.words r.names set).version) g e }
        where
          first : Generation (Doc A)
          first = new_generation (settings_of r.words r.names set) table

          one : (b : Bool) (g : Generation (Doc A)) → (if b then Some first else None) ≡ Some g → Numbered g.table
          one true g e = let x : first ≡ g = cc in subst (λ (z : Generation (Doc A)). Numbered z.table) x w.3
          one false g e = absurd (cc)

  begin_at : (scripts : List (Script A O)) → AllBegin r.sets scripts → (j : ℕ) (script : Script A O) → nth scripts j ≡ Some script → (script.heard ≡ None) × (script.number ≡ 1)
  unfolding AllBegin nth
  begin_at [] a j script e = absurd (cc)
  begin_at (c ∷ cs) a zero script e = absurd (cc)
  begin_at (c ∷ cs) a (suc zero) script e = let x : c ≡ script = cc in subst (λ (z : Script A O). (z.heard ≡ None) × (z.number ≡ 1)) x (a.0.unheard, a.0.first)
  begin_at (c ∷ cs) a (suc (suc j)) script e = begin_at cs a.1 (suc j) script e

  pub legal : (journal : List (Entry (Doc A) (Query F))) → IsJournal s journal → IsLegal r.words version_in s journal
  unfolding stood_before
  legal journal conforms =
      let run = is_run journal conforms in
      legal_run r.words s.race.settings s.sets r.scripts (opening_generations s.opening) version_in s.current (λ i. in_is r is r.sets (r.set_of i) (is.runs i))
      (λ i. (r.names.text (r.set_of i).registry.version, ap (text_of r.names.text) ((names r is).version_named (r.set_of i) (is.runs i))))
      (plans r.words s.race.settings (opening_generations s.opening) numbered)
      journal [] (found_at_opening s.opening) [] (opening_generations s.opening) run.0 (Rattle.race_model.specs.Openings.first_trace s) run.1 conforms
      (λ q l. level q) (none_yet s.race.settings (opening_generations s.opening)) refl
      (all_begin r.words s.race.settings s.sets r.scripts (opening_generations s.opening) version_in s.current (λ i. in_is r is r.sets (r.set_of i) (is.runs i))
      (λ i. (r.names.text (r.set_of i).registry.version, ap (text_of r.names.text) ((names r is).version_named (r.set_of i) (is.runs i))))
      (plans r.words s.race.settings (opening_generations s.opening) numbered) (begin_at r.scripts is.scripts))
    where
      level : (q : ℕ) → stood_before q (opening_generations s.opening) [] ≡ opening_generations s.opening
      level q = refl

not_above : (v w : Ver) → ver_lt v w ≡ true → ver_lt w v ≡ false
not_above v w e = by (ver_lt w v) refl
  where
    by : (b : Bool) → ver_lt w v ≡ b → ver_lt w v ≡ false
    by false f = f
    by true f = let x : ver_lt v v ≡ true = lt_trans v w v e f in let y : true ≡ false = sym x ∙ ver_self v in cc

le_trans : {a b c : ℕ} → a ≤ b → b ≤ c → a ≤ c
le_trans x y = omega arith

-- each page of at least this size that isn't empty leaves fewer
module _ (n : ℕ) where
  pages_is : {D : Type 0} (rows : Rows D) → pages_by (suc n) rows ≡ (length rows + n) / suc n
  pages_is rows = let e : length rows + (suc n - 1) ≡ length rows + n = omega arith in ap (λ x. x / suc n) e

  fewer : (m left : ℕ) → ((suc n ≤ m + 1) × (left + n ≤ m)) ⊎ (left ≡ 0) → suc ((left + n) / suc n) ≤ (m + suc n) / suc n
  fewer m left (inl e) =
      let a : (m + suc n) / suc n ≡ m / suc n + 1 = add-div_right m (zero-lt-suc n) in
      let c : (left + n) / suc n * suc n ≤ left + n = div-mul-le_self (left + n) (suc n) in
      let d : left + n ≤ m = e.1 in
      let b : (left + n) / suc n ≤ m / suc n = le-div ((left + n) / suc n) m (suc n) (zero-lt-suc n) (le_trans c d) in
      rw a (omega arith)
  fewer m left (inr e) =
      let a : (m + suc n) / suc n ≡ m / suc n + 1 = add-div_right m (zero-lt-suc n) in
      let under : left + n < suc n = omega arith in
      let b : (left + n) / suc n ≡ 0 = div-eq_of_lt under in
      rw (a, b) (omega arith)

  split : (m left k : ℕ) → n ≤ k → left ≡ m - k → ((suc n ≤ m + 1) × (left + n ≤ m)) ⊎ (left ≡ 0)
  split m left k l e = by (nat_le (suc k) (m + 1)) refl
    where
      by : (b : Bool) → nat_le (suc k) (m + 1) ≡ b → ((suc n ≤ m + 1) × (left + n ≤ m)) ⊎ (left ≡ 0)
      by true f = let x : suc k ≤ m + 1 = grind (arith, nat_tests) in inl (omega arith, omega arith)
      by false f = let x : m + 1 < suc k = grind (arith, nat_tests) in inr (omega arith)

  pub fewer_left : {D : Type 0} (k : ℕ) → n ≤ k → (rest : Rows D) → (take (suc k) rest ≡ []) ⊎ (suc (pages_by (suc n) (drop (suc k) rest)) ≤ pages_by (suc n) rest)
  fewer_left k l [] = inl refl
  fewer_left k l (r ∷ rest) =
      let m : ℕ = length rest in
      let left : ℕ = length (drop k rest) in
      let e : left ≡ m - k = length-drop k rest in
      let f : suc ((left + n) / suc n) ≤ (m + suc n) / suc n = fewer m left (split m left k l e) in
      let x : length (r ∷ rest) + n ≡ m + suc n = omega arith in
      let g : pages_by (suc n) (r ∷ rest) ≡ (m + suc n) / suc n = pages_is (r ∷ rest) ∙ ap (λ x. x / suc n) x in
      let h : pages_by (suc n) (drop k rest) ≡ (left + n) / suc n = pages_is (drop k rest) in
      inr (rw (h, g) f)

module _ {A O F : Type 0} (r : Rollout A O F) (is : IsRollout r) where
  abbrev z : Scenario (Doc A) (Query F) (Script A O)
  z = scenario_of r

  -- the pages of an instance
  abbrev pages : ℕ → Rows (Doc A) → ℕ
  pages i = pages_by (r.set_of i).batch

  paged : (i : ℕ) → Paged (select r.words.holds) (settings_of r.words r.names (r.set_of i)) (pages i)
  paged i = by (r.set_of i).batch (is.batches (r.set_of i) (is.runs i))
    where
      by : (k : ℕ) → 0 < k → Paged (select r.words.holds) (settings_of r.words r.names (record { registry = (r.set_of i).registry; batch = k; attempts = (r.set_of i).attempts })) (pages_by k)
      by zero p = absurd (omega arith)
      by (suc k) p = record {
        fewer = λ before rest sorted. (take (suc k) rest, drop (suc k) rest, sym (take-append-drop (suc k) rest), page_take r.words.holds k before rest sorted, fewer_left k k (omega arith) rest);
      }

  pub short : (journal : List (Entry (Doc A) (Query F))) → IsJournal z journal → AllShort z.race pages z.sets (trace_after z journal)
  short journal conforms =
      starts_short z.race z.current z.sets (Fresh r is) (Sound r is) (laws r is) (IsEmptyOpening z.opening) (opening_store z.current z.opening)
      (opens_well z.race z.current z.sets (Fresh r is) (Sound r is) (laws r is) z.opening (opens r is)) pages paged z.instances z.scripts journal (all_sound r is r.scripts is.scripts) conforms

  -- each target's name has its version
  knows : (v : Settings (Doc A) (Query F)) → Has v z.sets → (version : Text) × (named_version r.names v.target ≡ Some version)
  knows v h =
      let o = in_of r is r.sets v h in
      (r.names.text o.0.registry.version, subst (λ (x : Settings (Doc A) (Query F)). named_version r.names x.target ≡ Some (r.names.text o.0.registry.version)) (sym o.2) (ap (text_of r.names.text) ((names r is).version_named o.0 o.1)))

  pub goes_well : (before after : List (Entry (Doc A) (Query F))) (first : Entry (Doc A) (Query F)) (i tag : ℕ) (start past : Past (Doc A) (Query F)) → IsJournal z (before ++ first ∷ after) → IsOwn i tag first
      → nth (trace_after z before).pasts i ≡ Some start → state_of tag start.runs ≡ Init
      → IsUnhindered z.race i tag (z.race.settings i) (facts_since z (named_version r.names) before (first ∷ after)) (trace_after z before) (first ∷ after) (at z.current (trace_after z before).store.aliases)
      → nth (trace_after z (before ++ first ∷ after)).pasts i ≡ Some past
      → GoesWell (pages i) (z.race.settings i) (trace_after z (before ++ first ∷ after)).store (at z.current (trace_after z before).store.aliases) (heard_of tag past.runs) (state_of tag past.runs)
  goes_well before after first i tag start past =
      goes z (Fresh r is) (Sound r is) (laws r is) (opens r is) (all_sound r is r.scripts is.scripts) (named_version r.names) knows pages paged before after first i tag start past (finds_unknown r.words r.names (r.set_of i))

  pub machine_goes_well : (events : List Event) (before after : List (Entry (Doc A) (Query F))) (first : Entry (Doc A) (Query F)) (i : ℕ) (start : Past (Doc A) (Query F)) (node : Node (Doc A) (Query F)) (m : Machine (Doc A))
      → nth (world_after z events).nodes i ≡ Some node → node.machine ≡ Some m → (HasFailed node.starts node.sent → ⊥) → (world_after z events).journal ≡ before ++ first ∷ after
      → IsOwn i node.starts first → nth (trace_after z before).pasts i ≡ Some start → state_of node.starts start.runs ≡ Init
      → IsUnhindered z.race i node.starts (z.race.settings i) (facts_since z (named_version r.names) before (first ∷ after)) (trace_after z before) (first ∷ after) (at z.current (trace_after z before).store.aliases)
      → (heard : ℕ) × GoesWell (pages i) (z.race.settings i) (world_after z events).store (at z.current (trace_after z before).store.aliases) heard m.state
  machine_goes_well events before after first i start node m =
      machine_goes z (Fresh r is) (Sound r is) (laws r is) (opens r is) (all_sound r is r.scripts is.scripts) (named_version r.names) knows pages paged events before after first i start node m (finds_unknown r.words r.names (r.set_of i))

  module _ (set : TargetSet O) (single : IsOfOneSet r set) where
    one : IsOneVersion z (settings_of r.words r.names set)
    one = record { all = λ i. ap (settings_of r.words r.names) (single.all i); above = by r.start is.start single.above }
      where
        version : TargetSet O → Ver
        version s = s.registry.version

        above_first : (first : TargetSet O) → Has first r.sets → ver_lt (version first) (version set) ≡ true → IsAbove (settings_of r.words r.names set) (opening_of r.words r.names (Holding first empty_table))
        above_first first h lt =
            let named : r.names.version_in (r.names.target (version first)) ≡ Some (version first) = (names r is).version_named first h in
            let n : ver_lt (version set) (version first) ≡ false = not_above (version first) (version set) lt in (
              subst (λ o. is_above o (version set) ≡ false) (sym named) n,
              subst (λ o. is_that o (version set) ≡ false) (sym named) (rw (n, lt) refl),
            )

        by : (o : Start A O) → StartsWell r.sets r.set_of o → StartsBelow set o → IsAbove (settings_of r.words r.names set) (opening_of r.words r.names o)
        by Empty w a = tt
        by (Holding first table) w a = above_first first w.0 a

    not_empty : z.opening ≢ NoGeneration → r.start ≢ Empty
    not_empty n e = n (ap (opening_of r.words r.names) e)

    pub fails : (journal : List (Entry (Doc A) (Query F))) → IsJournal z journal → (i tag : ℕ) (past : Past (Doc A) (Query F)) (cause : Cause) → nth (trace_after z journal).pasts i ≡ Some past → state_of tag past.runs ≡ Ended (Fatal cause)
        → IsByDocuments cause × (r.start ≢ Empty)
    fails journal conforms i tag past cause there ends =
        let k = fails_by_documents z (Fresh r is) (Sound r is) (laws r is) (opens r is) (all_sound r is r.scripts is.scripts) (settings_of r.words r.names set) one journal conforms i tag past cause there ends in
        (k.0, not_empty k.1)

    pub machine_fails : (events : List Event) (i : ℕ) (node : Node (Doc A) (Query F)) (m : Machine (Doc A)) (cause : Cause) → nth (world_after z events).nodes i ≡ Some node → node.machine ≡ Some m → m.state ≡ Ended (Fatal cause) → IsByDocuments cause × (r.start ≢ Empty)
    machine_fails events i node m cause there is_running ends =
        let k = machine_fails_by_documents z (Fresh r is) (Sound r is) (laws r is) (opens r is) (all_sound r is r.scripts is.scripts) (settings_of r.words r.names set) one events i node m cause there is_running ends in
        (k.0, not_empty k.1)
