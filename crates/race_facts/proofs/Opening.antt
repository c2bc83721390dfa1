-- The opening store has the facts.
use Rattle.std.proofs.Common.{IsTrue, Bool, ◌≡◌, ◌≢◌, ℕ, zero, suc, List, [], ◌∷◌, replicate, false, Some, None, refl, sym, ◌∙◌, subst, ◌++◌, ◌+◌, ◌*◌, ◌≤◌, ◌⊎◌, true, Option, ap}
use mathlib.Core.Logic.◌⊎◌.{inl, inr}
use Rattle.base_model.specs.Keyed.{Text, at}
use Rattle.race_model.specs.Stores.{Table, Store, Rows, Index, Write, Request}
use Rattle.race_model.specs.Machines.{Settings, moved, Cause, StateName, End, Machine}
use Rattle.race_model.specs.Worlds.{Caller, callers_of, Race, Entry, Node, World, Event, nth, run, open_world}
use Rattle.race_model.specs.Journals.{open_trace, state_of, heard_of, Past, Trace, Has, MayInstance, MayMake, MayCome, Conforms, followed, all_followed}
use Rattle.race_model.specs.Sorted.{IsSorted, Each}
use Rattle.race_tables.proofs.Keys.{same_false, same_refl, at_put_same, at_put_other, NoneOn, none_on_put}
use Rattle.race_tables.proofs.Lists.{apart, Every, some_same, none_some}
use Rattle.race_model.specs.Stores.Request.{Bulk}
use Rattle.race_model.specs.Machines.Cause.{UnknownObjects, CorruptObjects, NewerObjects, OutdatedId, Collision, NewerIndex, VersionAliasMissing, LegacyIndex, OtherVersion, Leftover}
use Rattle.race_model.specs.Machines.End.{Fatal, GaveUp}
use Rattle.race_model.specs.Machines.State.{Ended}
use Rattle.race_model.specs.Generations.{Generations, of_alias}
use Rattle.race_model.specs.History.{facts_from, FoundSoFar, is_listed}
use Rattle.race_model.specs.Worlds.Actor.{Instance}
use Rattle.race_model.specs.Openings.{Opening, opening_store, IsEmptyOpening}
use Rattle.race_model.specs.Openings.Opening.{NoGeneration, OneGeneration}
use Rattle.race_model.specs.Premises.{Paged, NamesApart, RaceLaws, AllSound, IsOpening}
use Rattle.race_tables.proofs.Outputs.{Is}
use Rattle.race_facts.proofs.Racing.{every_state, TraceFacts, PastFacts, EachPlace, place_at, made_cond, no_instance, trace_step, trace_run}
use Rattle.race_follow.proofs.Following.{places_at, NodeAgrees, Agrees, worlds_kept}
use Rattle.race_model.specs.Worlds.How.{Heard}
use Rattle.race_model.specs.Runs.{last_generation, IsRun}
use Rattle.race_facts.proofs.Facts.{Installed, NotYet, StoreOk, Cond, Other, CauseOk, EndOk, StateOk}
use Rattle.race_facts.proofs.Facts.Current.{Nowhere, On}
use Rattle.race_facts.proofs.Facts.Cond.{Any_ping, Any_state, Any_open, Any_read, Any_close, Any_get, Any_search, Makes_temp, Makes_target, Blocks_source, Blocks_temp, Copies, Writes, Switches, Installs}

pub all_callers : {C : Type 0} (Sound : C → Type 0) (scripts : List C) → Every Sound scripts → Every (λ (c : Caller C). Sound c.script) (callers_of scripts)
unfolding Every
all_callers Sound [] a = tt
all_callers Sound (c ∷ cs) a = (a.0, all_callers Sound cs a.1)

pub at_one : {V : Type 0} (q k : Text) (v : V) → q ≢ k → at q ((k, v) ∷ []) ≡ None
unfolding at
at_one q k v n = rw (same_false q k n) refl

pub at_its : {V : Type 0} (k : Text) (v : V) → at k ((k, v) ∷ []) ≡ Some v
unfolding at
at_its k v = rw (same_refl k) refl

-- nobody has started
no_pasts : {D Q : Type 0} (P : ℕ → Past D Q → Type 0) (n : ℕ) → ((i : ℕ) → P i (record { runs = []; asked = [] })) → EachPlace P (replicate n (record { runs = []; asked = [] }))
unfolding EachPlace nth
no_pasts {D = D} {Q = Q} P n f = λ i x e. by n i i x e
  where
    by : (n i k : ℕ) (x : Past D Q) → nth (replicate n (record { runs = []; asked = [] })) i ≡ Some x → P k x
    by zero i k x e = absurd (cc)
    by (suc n) zero k x e = absurd (cc)
    by (suc n) (suc zero) k x e = let is : record { runs = []; asked = [] } ≡ x = cc in subst (P k) is (f k)
    by (suc n) (suc (suc i)) k x e = by n (suc i) k x e

-- by tests and by propositions
pub every_sound : {C : Type 0} (is_sound : C → Bool) (cs : List C) → AllSound is_sound cs → Every (λ c. IsTrue (is_sound c)) cs
unfolding AllSound Every
every_sound is_sound [] a = tt
every_sound is_sound (c ∷ cs) a = (a.0, every_sound is_sound cs a.1)

module _ {D Q C : Type 0} (race : Race D Q C) (cur : Text) (sets : List (Settings D Q)) (Fresh : Settings D Q → Text → D → Type 0) (Sound : C → Type 0) (laws : RaceLaws race cur (λ v. Has v sets) Fresh Sound) where
  abbrev In : Settings D Q → Type 0
  In v = Has v sets

  abbrev names : NamesApart cur In
  names = laws.names

  -- the openings
  module _ (v : Settings D Q) (i : In v) (table : Table D) where
    abbrev opening : Store D
    opening = opening_store cur (OneGeneration v table)

    other_alias : (n : Text) → n ≢ cur → n ≢ v.version → at n opening.aliases ≡ None
    other_alias n c x = at_put_other n cur v.target ((v.version, v.target) ∷ []) c ∙ at_one n v.version v.target x

    is_installed : Installed v opening.aliases
    is_installed = at_put_other v.version cur v.target ((v.version, v.target) ∷ []) (apart (names.cur_ver v i)) ∙ at_its v.version v.target

    is_on : at cur opening.aliases ≡ Some v.target
    is_on = at_put_same cur v.target ((v.version, v.target) ∷ [])

    only_one : (w : Settings D Q) → In w → Installed w opening.aliases → w ≡ v
    only_one w j x = elim (names.apart w v j i) [ inl s ↦ s | inr o ↦ none_some w.target (at w.version opening.aliases) (other_alias w.version (apart (names.cur_ver w j)) o.0) x ]

    the_target : (w : Settings D Q) (ix : Index D) → In w → at w.target opening.indices ≡ Some ix → (w ≡ v) × (record { blocked = false; source = None; table = table } ≡ ix)
    the_target w ix j e = elim (names.apart w v j i) [
      | inl s ↦ (s, some_same (record { blocked = false; source = None; table = table }) ix (at v.target opening.indices) (at_its v.target _) (subst (λ z. at z.target opening.indices ≡ Some ix) s e))
      | inr o ↦ none_some ix (at w.target opening.indices) (at_one w.target v.target _ o.1) e
    ]

    pub opens : IsSorted table.rows → Each (Fresh v) table.rows → StoreOk cur In Fresh ⊥ opening
    unfolding NoneOn
    opens in_order fresh = record {
      aliases = record {
        current = On v i is_on is_installed;
        versions = λ w j. elim (names.apart w v j i) [ inl s ↦ inr (subst (λ z. Installed z opening.aliases) (sym s) is_installed) | inr o ↦ inl (other_alias w.version (apart (names.cur_ver w j)) o.0) ];
        rising = λ w j x c e. subst (λ z. (w.is_later z ≡ true) ⊎ (w.is_same z ≡ true)) (some_same v.target c (at cur opening.aliases) is_on e) (subst (λ z. (z.is_later v.target ≡ true) ⊎ (z.is_same v.target ≡ true)) (sym (only_one w j x)) (inr (laws.order.own v i)));
        no_target_alias = λ w j. other_alias w.target (apart (names.cur_target w j)) (apart (names.ver_target v w i j));
        no_temp_alias = λ w j. other_alias w.temp (apart (names.cur_temp w j)) (apart (names.ver_temp v w i j));
        none_on = λ w j. none_on_put w.temp cur v.target ((v.version, v.target) ∷ []) (names.target_temp v w i j) (same_false v.target w.temp (names.target_temp v w i j), tt);
      };
      there = λ w j x. subst (λ z. Is opening.indices z.target) (sym (only_one w j x)) (record { blocked = false; source = None; table = table }, at_its v.target _);
      open_last = λ w j x ix e b. subst (λ z. at cur opening.aliases ≡ Some z.target) (sym (only_one w j x)) is_on;
      no_cur_index = at_one cur v.target _ (names.cur_target v i);
      no_ver_index = λ w j. at_one w.version v.target _ (names.ver_target w v j i);
      sorted = λ w j ix e. subst (λ (z : Index D). IsSorted z.table.rows) (the_target w ix j e).1 in_order;
      fresh = λ w j ix e. subst (λ (z : Index D). Each (Fresh w) z.table.rows) (the_target w ix j e).1 (subst (λ z. Each (Fresh z) table.rows) (sym (the_target w ix j e).0) fresh);
      temps = λ w j not ix e. none_some ix (at w.temp opening.indices) (at_one w.temp v.target _ (apart (names.target_temp v w i j))) e;
      targets = λ w j not ix e. none_some v.target (at v.version opening.aliases) (subst (λ z. NotYet z opening.aliases) (the_target w ix j e).0 not) is_installed;
    }

  pub opens_empty : StoreOk cur In Fresh (Unit {0}) (opening_store {Q = Q} cur NoGeneration)
  unfolding at NoneOn
  opens_empty = record {
    aliases = record {
      current = Nowhere refl tt (λ w j. refl);
      versions = λ w j. inl refl;
      rising = λ w j x c e. absurd (cc);
      no_target_alias = λ w j. refl;
      no_temp_alias = λ w j. refl;
      none_on = λ w j. tt;
    };
    there = λ w j x. absurd (cc);
    open_last = λ w j x ix e b. absurd (cc);
    no_cur_index = refl;
    no_ver_index = λ w j. refl;
    sorted = λ w j ix e. absurd (cc);
    fresh = λ w j ix e. absurd (cc);
    temps = λ w j not ix e. absurd (cc);
    targets = λ w j not ix e. absurd (cc);
  }

  pub opens_well : (o : Opening D Q) → IsOpening sets Fresh o → StoreOk cur In Fresh (IsEmptyOpening o) (opening_store cur o)
  opens_well NoGeneration w = opens_empty
  opens_well (OneGeneration v table) w = opens v w.0 table w.1 w.2

  module _ (Empty : Type 0) (st : Store D) (ok : StoreOk cur In Fresh Empty st) where
    abbrev TraceOk : Trace D Q C → Type 0
    TraceOk t = TraceFacts race cur In Fresh Empty Sound t

    pub opens_trace : (instances : ℕ) (scripts : List C) → Every Sound scripts → TraceOk (open_trace st instances scripts)
    unfolding Every
    opens_trace instances scripts a = record {
      store = ok;
      pasts = no_pasts (PastFacts race cur In Fresh Empty Sound st) instances (λ i. record { runs = tt; asked = tt });
      callers = all_callers Sound scripts a;
    }
