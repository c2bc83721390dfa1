-- A start that nothing stands against ends as done within its bound.
use Rattle.std.proofs.Common.{◌≡◌, ℕ, ◌+◌, ◌*◌, ◌≤◌, ◌⊎◌, List, [], ◌∷◌, false, Option, Some, None, refl, sym, ◌∙◌, ap, subst}
use mathlib.Core.Logic.◌⊎◌.{inl, inr}
use Rattle.base_model.specs.Keyed.{Text, at}
use Rattle.race_model.specs.Stores.{Rows, Table, Store, Request, serve, seen}
use Rattle.race_model.specs.Stores.Reply.{Seen}
use Rattle.race_model.specs.Machines.{Settings, End, State, request, from_state}
use Rattle.race_model.specs.Machines.End.{Fatal, GaveUp}
use Rattle.race_model.specs.Machines.State.{Init, Ended}
use Rattle.race_model.specs.Worlds.{Race, Entry, nth}
use Rattle.race_model.specs.Journals.{Past, Trace, state_of, heard_of, MayCome, Conforms, followed, all_followed}
use Rattle.race_model.specs.Generations.{Generations, move}
use Rattle.race_model.specs.History.{FoundSoFar, facts_of, found_after, facts_from}
use Rattle.race_model.specs.Runs.{last_generation}
use Rattle.race_model.specs.Premises.{NamesApart, RaceLaws, Paged}
use Rattle.race_facts.proofs.Facts.{StoreOk, Later, StateOk}
use Rattle.race_facts.proofs.Racing.{every_state, TraceFacts, PastFacts, place_at, trace_step}
use Rattle.race_history.proofs.Histories.{Shows, FoundOk, last_index, on_last}
use Rattle.race_history.proofs.Telling.{entry_leads, store_after}
use Rattle.race_bound.proofs.Owning.{Owner}
use Rattle.race_bound.proofs.Costing.{Cost}
use Rattle.race_bound.proofs.Bounding.{Owned}
use Rattle.race_claims.specs.Unhindered.{IsOwn, AtOwn, LooksAtNames, FindsUnknown}
use Rattle.race_claims.proofs.Ways.{Way}
use Rattle.race_claims.proofs.Ways.Way.{Fresh, Standing, Below}
use Rattle.race_claims.proofs.Unhindered.{Good, Named, Clear, WayOk, Bound}
use Rattle.race_model.specs.History.{found_after_all}
use Rattle.race_tables.proofs.Keys.{same_is}
use Rattle.race_bound.proofs.Costing.{cost_init}
use Rattle.race_claims.specs.Unhindered.{IsUnhindered, IsWithin, IsWithinPages, GoesWell}
use Rattle.race_claims.proofs.Unhindered.{running_bound, bound_more}
use Rattle.race_claims.proofs.Beginning.{fresh_first, standing_first, below_first, not_same}
use Rattle.race_claims.proofs.Going.{OnlyFor, for_front, for_back, Stand, looks_first, own_request, first_step, along}

module _ {D Q C : Type 0} (race : Race D Q C) (cur : Text) (In : Settings D Q → Type 0) (Fresh_docs : Settings D Q → Text → D → Type 0) (Empty : Type 0) (Sound : C → Type 0) (laws : RaceLaws race cur In Fresh_docs Sound)
    (version_in : Text → Option Text) (knows : (u : Settings D Q) → In u → (version : Text) × (version_in u.target ≡ Some version)) (pages : ℕ → Rows D → ℕ) (paged : (j : ℕ) → Paged race.select (race.settings j) (pages j)) (i tag : ℕ) (find : FindsUnknown race.select (race.settings i)) where
  abbrev v : Settings D Q
  v = race.settings i

  abbrev is_in : In v
  is_in = laws.runs i

  abbrev Ok : Store D → Type 0
  Ok st = StoreOk cur In Fresh_docs Empty st

  abbrev At : Store D → State D → Type 0
  At st state = StateOk cur In Fresh_docs Empty v st state

  abbrev TraceOk : Trace D Q C → Type 0
  TraceOk t = TraceFacts race cur In Fresh_docs Empty Sound t

  abbrev Lasts : Store D → Store D → Type 0
  Lasts st st' = Later cur In Fresh_docs Empty st st'

  abbrev GoodAt : Way → Store D → ℕ → State D → Type 0
  GoodAt w st k state = Good race cur In Fresh_docs Empty Sound laws version_in knows pages paged i tag find w st k state

  abbrev NamedAt : Way → Option Text → Type 0
  NamedAt w o = Named race cur In Fresh_docs Empty Sound laws version_in knows pages paged i tag find w o

  abbrev ClearAt : Way → Store D → Request D Q → Type 0
  ClearAt w st ask = Clear race cur In Fresh_docs Empty Sound laws version_in knows pages paged i tag find w st ask

  abbrev BoundAt : Way → Store D → ℕ → ℕ → Type 0
  BoundAt w st c k = Bound race cur In Fresh_docs Empty Sound laws version_in knows pages paged i tag find w st c k

  abbrev OkWay : Way → Type 0
  OkWay w = WayOk race cur In Fresh_docs Empty Sound laws version_in knows pages paged i tag find w

  abbrev Holds : Owner → Trace D Q C → Type 0
  Holds o t = Owned race cur In Fresh_docs Empty Sound laws pages paged o t

  abbrev names : NamesApart cur In
  names = laws.names

  -- what the entries so far leave, with what is found in them
  pub found_run : (gs : Generations D) (f : FoundSoFar) (t : Trace D Q C) (j : List (Entry D Q)) → Shows cur In gs t.store → FoundOk In f gs → TraceOk t → Conforms race t j → (last : Generations D) × Shows cur In last (all_followed race t j).store × FoundOk In (found_after_all cur f j) last
  unfolding Conforms all_followed MayCome followed found_after_all
  found_run gs f t [] s k a c = (gs, s, k)
  found_run gs f t (e ∷ j) s k a c =
      let l = entry_leads race cur In Fresh_docs Empty Sound laws version_in gs f t e.actor e s k a c.0.0 c.0.1 in
      found_run (move gs l.m) (found_after cur f e.request e.reply) (followed race t e) j (subst (Shows cur In (move gs l.m)) (sym (store_after race cur In Fresh_docs Empty Sound laws version_in t e.actor e.how e.tag e.request e.reply (serve race.select t.store e.request).0)) l.shows) l.found (trace_step race cur In Fresh_docs Empty Sound laws t e a c.0) c.1

  module _ (gs : Generations D) (f : FoundSoFar) (o : Owner) (t : Trace D Q C) (first : Entry D Q) (after : List (Entry D Q)) (start : Past D Q) (shows : Shows cur In gs t.store) (found : FoundOk In f gs) (facts : TraceOk t) (owned : Holds o t) (own : IsOwn i tag first)
      (there : nth t.pasts i ≡ Some start) (init : state_of tag start.runs ≡ Init) (c : Conforms race t (first ∷ after)) where
    abbrev later : Trace D Q C
    later = all_followed race t (first ∷ after)

    none_heard : heard_of tag start.runs ≡ 0
    none_heard = cost_init race cur In Fresh_docs Empty Sound laws (pages i) v is_in (laws.not_outdated i) (paged i) t.store (heard_of tag start.runs) (state_of tag start.runs) ((owned i start there).cost tag) init

    at_last : at cur t.store.aliases ≡ last_index (last_generation gs)
    at_last = sym (on_last race cur In Fresh_docs Empty Sound laws version_in gs t.store shows.last)

    -- from a first reply of this way
    runs_from : (w : Way) → OkWay w → NamedAt w (at cur t.store.aliases) → OnlyFor race cur In Fresh_docs Empty Sound laws version_in knows pages paged i tag find w (facts_from cur version_in f (first ∷ after)) → AtOwn race i tag (ClearAt w) t (first ∷ after) → GoodAt w t.store 1 (from_state v (Seen (seen t.store.indices) t.store.aliases))
        → (gs' : Generations D) × (f' : FoundSoFar) × (o' : Owner) × Stand race cur In Fresh_docs Empty Sound laws version_in knows pages paged i tag find w gs' f' o' later
    unfolding Conforms all_followed facts_from AtOwn
    runs_from w ok named only clear good =
        let r = first_step race cur In Fresh_docs Empty Sound laws version_in knows pages paged i tag find w gs f o t first start shows found facts owned (subst (NamedAt w) at_last named) c.0
        (for_front race cur In Fresh_docs Empty Sound laws version_in knows pages paged i tag find w (facts_of cur version_in f first.request first.reply) (facts_from cur version_in (found_after cur f first.request first.reply) after) only) own there init none_heard good in
        along race cur In Fresh_docs Empty Sound laws version_in knows pages paged i tag find w ok r.0 (found_after cur f first.request first.reply) r.1 (followed race t first) after r.2 c.1
        (for_back race cur In Fresh_docs Empty Sound laws version_in knows pages paged i tag find w (facts_of cur version_in f first.request first.reply) (facts_from cur version_in (found_after cur f first.request first.reply) after) only) clear.1

    -- how it stands at the end
    ends : (w : Way) (gs' : Generations D) (f' : FoundSoFar) (o' : Owner) → Stand race cur In Fresh_docs Empty Sound laws version_in knows pages paged i tag find w gs' f' o' later → (past : Past D Q) → nth later.pasts i ≡ Some past → (Within : ℕ → Type 0) → ((k : ℕ) → BoundAt w later.store 14 k → Within k)
        → ((state_of tag past.runs ≡ Ended (End.Done v.target)) × Within (heard_of tag past.runs)) ⊎ ((ask : Request D Q) × (request v (state_of tag past.runs) ≡ Some ask) × Within (heard_of tag past.runs + 1))
    unfolding request
    ends w gs' f' o' s past e Within within = by (state_of tag past.runs) (request v (state_of tag past.runs)) refl (s.good past e) ((s.owned i past e).cost tag) (every_state (At later.store) tag past.runs tt (place_at (PastFacts race cur In Fresh_docs Empty Sound later.store) later.pasts i past s.facts.pasts e).runs)
      where
        k : ℕ
        k = heard_of tag past.runs

        by : (x : State D) (q : Option (Request D Q)) → request v x ≡ q → GoodAt w later.store k x → Cost race cur In Fresh_docs Empty Sound laws (pages i) v is_in (laws.not_outdated i) (paged i) later.store k x → At later.store x
            → ((x ≡ Ended (End.Done v.target)) × Within k) ⊎ ((ask : Request D Q) × (request v x ≡ Some ask) × Within (k + 1))
        by (Ended (End.Done target)) q r g cost at_end = inl (ap (λ n. Ended (End.Done n)) at_end.0, within k g)
        by (Ended (Fatal cause)) q r g cost at_end = absurd g
        by (Ended (GaveUp name faults)) q r g cost at_end = absurd g
        by x (Some ask) r g cost at_end = inr (ask, r, within (k + 1) (bound_more race cur In Fresh_docs Empty Sound laws version_in knows pages paged i tag find w later.store 13 k (running_bound race cur In Fresh_docs Empty Sound laws version_in knows pages paged i tag find w later.store k x ask r cost g)))
        by _ None r g cost at_end = absurd (cc)

    at_own_all : (x : Trace D Q C) (es : List (Entry D Q)) → AtOwn race i tag (ClearAt Standing) x es
    unfolding AtOwn
    at_own_all x [] = tt
    at_own_all x (e ∷ es) = (λ h. tt, at_own_all (followed race x e) es)

    at_own_fresh : (x : Trace D Q C) (es : List (Entry D Q)) → AtOwn race i tag (ClearAt Fresh) x es
    unfolding AtOwn
    at_own_fresh x [] = tt
    at_own_fresh x (e ∷ es) = (λ h. tt, at_own_fresh (followed race x e) es)

    within_pages : (s : Text) (k : ℕ) → BoundAt (Below s) later.store 14 k → IsWithinPages (pages i) later.store s k
    within_pages s k (inl le) = inl le
    within_pages s k (inr o) = inr (o.blocked.index, o.blocked.there, o.blocked.blocked, subst (λ (z : Table D). k ≤ 14 + 2 * pages i z.rows) (sym o.blocked.table) o.few)

    first_looks : LooksAtNames first.request
    unfolding Conforms MayCome
    first_looks = subst LooksAtNames (looks_first race cur In Fresh_docs Empty Sound laws version_in knows pages paged i tag find first.request (subst (λ x. request v x ≡ Some first.request) init
        (own_request race cur In Fresh_docs Empty Sound laws version_in knows pages paged i tag find t first.actor first.how first.tag first.request start own.0 own.1 own.2 there c.0.0))) tt

    standing : at cur t.store.aliases ≡ Some v.target → (past : Past D Q) → nth later.pasts i ≡ Some past → (Within : ℕ → Type 0) → ((k : ℕ) → k ≤ 14 → Within k)
        → ((state_of tag past.runs ≡ Ended (End.Done v.target)) × Within (heard_of tag past.runs)) ⊎ ((ask : Request D Q) × (request v (state_of tag past.runs) ≡ Some ask) × Within (heard_of tag past.runs + 1))
    standing e past f Within within =
        let r = runs_from Standing tt tt tt (at_own_all t (first ∷ after)) (subst (GoodAt Standing t.store 1) (sym (standing_first race cur In Fresh_docs Empty Sound laws v is_in t.store facts.store e)) tt) in
        ends Standing r.0 r.1 r.2 r.3 past f Within within

    pub goes_well : IsUnhindered race i tag v (facts_from cur version_in f (first ∷ after)) t (first ∷ after) (at cur t.store.aliases) → (past : Past D Q) → nth later.pasts i ≡ Some past → GoesWell (pages i) v later.store (at cur t.store.aliases) (heard_of tag past.runs) (state_of tag past.runs)
    unfolding AtOwn
    goes_well u past there_later = by (at cur t.store.aliases) refl u
      where
        by : (o : Option Text) → at cur t.store.aliases ≡ o → IsUnhindered race i tag v (facts_from cur version_in f (first ∷ after)) t (first ∷ after) o → GoesWell (pages i) v later.store o (heard_of tag past.runs) (state_of tag past.runs)
        by None e only =
            let r = runs_from Fresh tt (inl e) only (at_own_fresh t (first ∷ after)) (subst (GoodAt Fresh t.store 1) (sym (fresh_first race cur In Fresh_docs Empty Sound laws v is_in t.store facts.store e)) tt) in
            ends Fresh r.0 r.1 r.2 r.3 past there_later (IsWithin (pages i) v later.store None) (λ k le. le)
        by (Some s) e (inl is) = standing (e ∙ ap (λ z. Some z) is) past there_later (IsWithin (pages i) v later.store (Some s)) (λ k le. inl (is, le))
        by (Some s) e (inr a) = elim (same_is s v.target) [
          | inl y ↦ standing (e ∙ ap (λ z. Some z) y.1) past there_later (IsWithin (pages i) v later.store (Some s)) (λ k le. inl (y.1, le))
          | inr x ↦ (let other : v.is_same s ≡ false = not_same race cur In Fresh_docs Empty Sound laws v is_in t.store s facts.store e x.1 in
              let r = runs_from (Below s) (a.0, other) (inl e) a.1 a.2 (subst (GoodAt (Below s) t.store 1) (sym (below_first race cur In Fresh_docs Empty Sound laws v is_in t.store s facts.store e x.1 a.0 other ((a.2.0 own).own_source first_looks))) refl) in
              ends (Below s) r.0 r.1 r.2 r.3 past there_later (IsWithin (pages i) v later.store (Some s)) (λ k b. inr (within_pages s k b)))
        ]
