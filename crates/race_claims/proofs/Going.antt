-- A start that nothing stands against, along a journal.
use Rattle.std.proofs.Common.{◌≡◌, ℕ, ◌+◌, List, [], ◌∷◌, ◌++◌, Option, Some, None, refl, sym, ◌∙◌, ap, subst}
use mathlib.Core.Logic.◌⊎◌.{inr}
use Rattle.base_model.specs.Keyed.{Text, at}
use Rattle.race_model.specs.Stores.{Rows, Store, Write, Request, serve, seen}
use Rattle.race_model.specs.Stores.Reply.{Seen}
use Rattle.race_model.specs.Stores.Request.{Bulk}
use Rattle.race_model.specs.Machines.{Settings, State, request, moved, from_state}
use Rattle.race_model.specs.Machines.State.{Init}
use Rattle.race_model.specs.Worlds.{Race, Actor, How, Entry, Caller, nth}
use Rattle.race_model.specs.Worlds.Actor.{Instance, Client}
use Rattle.race_model.specs.Worlds.How.{Heard}
use Rattle.race_model.specs.Journals.{Past, Trace, state_of, heard_of, MayInstance, MayClient, MayMake, MayCome, Conforms, follow_over, followed, all_followed}
use Rattle.race_model.specs.Generations.{Generations, Move, move, left_by, install, written_in}
use Rattle.race_model.specs.Generations.Move.{Stay, Migrate, Install}
use Rattle.race_model.specs.History.{Fact, FoundSoFar, facts_of, found_after, facts_from, migrated_fact, installed_fact}
use Rattle.race_model.specs.Runs.{last_generation, MayMove, EntryIs, fact_of}
use Rattle.race_model.specs.Premises.{RaceLaws, Paged}
use Rattle.race_tables.proofs.Lists.{some_same, every_nth}
use Rattle.race_facts.proofs.Facts.{StoreOk, Later, StateOk}
use Rattle.race_facts.proofs.Switching.{request_served}
use Rattle.race_facts.proofs.Racing.{every_state, TraceFacts, PastFacts, place_at, made_cond, no_instance, no_client, client_asks, client_served, trace_step}
use Rattle.race_history.proofs.Lining.{block_last_is, migrate_last, written_last}
use Rattle.race_history.proofs.Histories.{Shows, LastOn, FoundOk, last_index, on_last}
use Rattle.race_history.proofs.Telling.{entry_leads, store_after}
use Rattle.race_history.proofs.Histories.LastOn.{No_last, The_last}
use Rattle.race_bound.proofs.Owning.{Owner}
use Rattle.race_bound.proofs.Costing.{Cost}
use Rattle.race_bound.proofs.Bounding.{Owned, entry_owned}
use Rattle.race_claims.specs.Unhindered.{IsOwn, AtOwn, OnlyTo, FindsUnknown}
use Rattle.race_claims.proofs.Starting.{Went, went_over}
use Rattle.race_claims.proofs.Starting.Went.{Moves, Stays}
use Rattle.race_claims.proofs.Ways.{Way}
use Rattle.race_claims.proofs.Ways.Way.{Fresh, Standing, Below}
use Rattle.race_claims.proofs.Unhindered.{Good, Named, Clear, WayOk, good_later, own_good}

module _ {D Q C : Type 0} (race : Race D Q C) (cur : Text) (In : Settings D Q → Type 0) (Fresh_docs : Settings D Q → Text → D → Type 0) (Empty : Type 0) (Sound : C → Type 0) (laws : RaceLaws race cur In Fresh_docs Sound)
    (version_in : Text → Option Text) (knows : (u : Settings D Q) → In u → (version : Text) × (version_in u.target ≡ Some version)) (pages : ℕ → Rows D → ℕ) (paged : (j : ℕ) → Paged race.select (race.settings j) (pages j)) (i tag : ℕ) (find : FindsUnknown race.select (race.settings i)) where
  abbrev v : Settings D Q
  v = race.settings i

  abbrev is_in : In v
  is_in = laws.runs i

  abbrev Ok : Store D → Type 0
  Ok st = StoreOk cur In Fresh_docs Empty st

  abbrev At : Store D → State D → Type 0
  At st state = StateOk cur In Fresh_docs Empty v st state

  abbrev TraceOk : Trace D Q C → Type 0
  TraceOk t = TraceFacts race cur In Fresh_docs Empty Sound t

  abbrev Lasts : Store D → Store D → Type 0
  Lasts st st' = Later cur In Fresh_docs Empty st st'

  abbrev GoodAt : Way → Store D → ℕ → State D → Type 0
  GoodAt w st k state = Good race cur In Fresh_docs Empty Sound laws version_in knows pages paged i tag find w st k state

  abbrev NamedAt : Way → Option Text → Type 0
  NamedAt w o = Named race cur In Fresh_docs Empty Sound laws version_in knows pages paged i tag find w o

  abbrev ClearAt : Way → Store D → Request D Q → Type 0
  ClearAt w st ask = Clear race cur In Fresh_docs Empty Sound laws version_in knows pages paged i tag find w st ask

  abbrev OkWay : Way → Type 0
  OkWay w = WayOk race cur In Fresh_docs Empty Sound laws version_in knows pages paged i tag find w

  abbrev Holds : Owner → Trace D Q C → Type 0
  Holds o t = Owned race cur In Fresh_docs Empty Sound laws pages paged o t

  -- no migration or install to another target, where the way asks for it
  abbrev pub OnlyFor : Way → List Fact → Type 0
  OnlyFor Fresh fs = OnlyTo v.target fs
  OnlyFor Standing fs = Unit {0}
  OnlyFor (Below s) fs = OnlyTo v.target fs

  only_front : (xs ys : List Fact) → OnlyTo v.target (xs ++ ys) → OnlyTo v.target xs
  unfolding OnlyTo
  only_front [] ys a = tt
  only_front (Fact.Block p ∷ xs) ys a = only_front xs ys a
  only_front (Fact.Migrate p n u ∷ xs) ys a = (a.0, only_front xs ys a.1)
  only_front (Fact.Install p n u ∷ xs) ys a = (a.0, only_front xs ys a.1)

  only_back : (xs ys : List Fact) → OnlyTo v.target (xs ++ ys) → OnlyTo v.target ys
  unfolding OnlyTo
  only_back [] ys a = a
  only_back (Fact.Block p ∷ xs) ys a = only_back xs ys a
  only_back (Fact.Migrate p n u ∷ xs) ys a = only_back xs ys a.1
  only_back (Fact.Install p n u ∷ xs) ys a = only_back xs ys a.1

  pub for_front : (w : Way) (xs ys : List Fact) → OnlyFor w (xs ++ ys) → OnlyFor w xs
  for_front Fresh xs ys a = only_front xs ys a
  for_front Standing xs ys a = tt
  for_front (Below s) xs ys a = only_front xs ys a

  pub for_back : (w : Way) (xs ys : List Fact) → OnlyFor w (xs ++ ys) → OnlyFor w ys
  for_back Fresh xs ys a = only_back xs ys a
  for_back Standing xs ys a = tt
  for_back (Below s) xs ys a = only_back xs ys a

  -- a move to another last generation is to the target
  migrates_here : (u : Settings D Q) → In u → (place : ℕ) → OnlyTo v.target (fact_of {Q = Q} version_in place (Migrate u)) → u.target ≡ v.target
  unfolding OnlyTo
  migrates_here u j place a = (subst (λ o. OnlyTo v.target (migrated_fact o place u.target)) (knows u j).1 a).0

  installs_here : (u : Settings D Q) → In u → (place : ℕ) → OnlyTo v.target (fact_of {Q = Q} version_in place (Install u)) → u.target ≡ v.target
  unfolding OnlyTo
  installs_here u j place a = (subst (λ o. OnlyTo v.target (installed_fact o place u.target)) (knows u j).1 a).0

  migrate_named : (w : Way) (u : Settings D Q) → In u → (place : ℕ) → OnlyFor w (fact_of {Q = Q} version_in place (Migrate u)) → NamedAt w (Some u.target)
  migrate_named Fresh u j place a = inr (ap (λ z. Some z) (migrates_here u j place a))
  migrate_named Standing u j place a = tt
  migrate_named (Below s) u j place a = inr (ap (λ z. Some z) (migrates_here u j place a))

  install_named : (w : Way) (u : Settings D Q) → In u → (place : ℕ) → OnlyFor w (fact_of {Q = Q} version_in place (Install u)) → NamedAt w (Some u.target)
  install_named Fresh u j place a = inr (ap (λ z. Some z) (installs_here u j place a))
  install_named Standing u j place a = tt
  install_named (Below s) u j place a = inr (ap (λ z. Some z) (installs_here u j place a))

  instance_named : (w : Way) (gs : Generations D) (j place : ℕ) (m : Move D Q) → MayMove (race.settings j) gs m → OnlyFor w (fact_of version_in place m) → NamedAt w (last_index (last_generation gs)) → NamedAt w (last_index (last_generation (move gs m)))
  unfolding last_generation
  instance_named w gs j place Stay may only named = named
  instance_named w gs j place Move.Block may only named = subst (λ z. NamedAt w (last_index z)) (sym (block_last_is gs may.0 may.1)) (subst (λ z. NamedAt w (last_index z)) may.1 named)
  instance_named w gs j place (Migrate u) may only named = subst (λ z. NamedAt w (last_index z)) (sym (migrate_last u gs may.1.last may.1.is_last)) (migrate_named w u (subst In (sym may.0) (laws.runs j)) place only)
  instance_named w gs j place (Install u) may only named = subst (λ z. NamedAt w (last_index (last_generation (install u z)))) (sym may.1) (install_named w u (subst In (sym may.0) (laws.runs j)) place only)
  instance_named w gs j place (Move.Ask ask) may only named = absurd may

  written_index : (gs : Generations D) (st : Store D) (name : Text) (ws : List (Write D)) → LastOn cur In gs st → last_index (last_generation (written_in name ws gs)) ≡ last_index (last_generation gs)
  unfolding last_generation written_in
  written_index gs st name ws (No_last none off) = rw none refl
  written_index gs st name ws (The_last u j l on) =
      let k = written_last name ws gs u.version u.target l in
      rw (k.is_last, l.is_last) (ap (λ z. Some z) (k.of ∙ sym l.of))

  left_index : (gs : Generations D) (st : Store D) (ask : Request D Q) → LastOn cur In gs st → last_index (last_generation (left_by gs ask)) ≡ last_index (last_generation gs)
  unfolding left_by
  left_index gs st (Bulk name ws) l = written_index gs st name ws l
  left_index gs st _ l = refl

  entry_named : (w : Way) (gs : Generations D) (st : Store D) (place : ℕ) (actor : Actor) (e : Entry D Q) (m : Move D Q) → LastOn cur In gs st → EntryIs race gs actor e m → OnlyFor w (fact_of version_in place m) → NamedAt w (last_index (last_generation gs)) → NamedAt w (last_index (last_generation (move gs m)))
  entry_named w gs st place (Instance j) e m l may only named = instance_named w gs j place m may only named
  entry_named w gs st place (Client k) e m l may only named = subst (λ z. NamedAt w (last_index (last_generation (move gs z)))) (sym may.0) (subst (NamedAt w) (sym (left_index gs st e.request l)) named)

  -- what lasts through an entry
  entry_later : (t : Trace D Q C) (actor : Actor) (how : How) (own : ℕ) (ask : Request D Q) → TraceOk t → MayMake race t actor how own ask → Lasts t.store (serve race.select t.store ask).0
  entry_later t (Instance j) how own ask a m = by (nth t.pasts j) refl m
    where
      by : (o : Option (Past D Q)) → nth t.pasts j ≡ o → MayInstance (race.settings j) how o own ask → Lasts t.store (serve race.select t.store ask).0
      by None e x = absurd (no_instance race cur In Fresh_docs Empty Sound laws (race.settings j) how own ask x)
      by (Some past) e x = (request_served race cur In Fresh_docs Empty Sound laws t.store (race.settings j) ask a.store (laws.runs j) (made_cond race cur In Fresh_docs Empty Sound laws t.store j how past own ask (place_at (PastFacts race cur In Fresh_docs Empty Sound t.store) t.pasts j past a.pasts e) x)).later
  entry_later t (Client k) how own ask a m = by (nth t.callers k) refl m
    where
      by : (o : Option (Caller C)) → nth t.callers k ≡ o → MayClient race.clients how o own ask → Lasts t.store (serve race.select t.store ask).0
      by None e x = absurd (no_client race cur In Fresh_docs Empty Sound laws how own ask x)
      by (Some caller) e x =
          let sound : Sound caller.script = every_nth (λ (c : Caller C). Sound c.script) t.callers k caller a.callers e in
          (client_served race cur In Fresh_docs Empty Sound laws t.store ask a.store (laws.asks caller.script ask sound (client_asks race cur In Fresh_docs Empty Sound laws how caller own ask x))).later

  -- how all stands before an entry
  pub record Stand (w : Way) (gs : Generations D) (f : FoundSoFar) (o : Owner) (t : Trace D Q C) : Type 0 where
    pub shows : Shows cur In gs t.store
    pub found : FoundOk In f gs
    pub facts : TraceOk t
    pub owned : Holds o t
    pub named : NamedAt w (last_index (last_generation gs))
    pub good : (past : Past D Q) → nth t.pasts i ≡ Some past → GoodAt w t.store (heard_of tag past.runs) (state_of tag past.runs)

  pub named_now : (w : Way) (gs : Generations D) (f : FoundSoFar) (o : Owner) (t : Trace D Q C) → Stand w gs f o t → NamedAt w (at cur t.store.aliases)
  named_now w gs f o t s = subst (NamedAt w) (on_last race cur In Fresh_docs Empty Sound laws version_in gs t.store s.shows.last) s.named

  pub own_request : (t : Trace D Q C) (actor : Actor) (how : How) (own : ℕ) (ask : Request D Q) (past : Past D Q) → actor ≡ Instance i → how ≡ Heard → own ≡ tag → nth t.pasts i ≡ Some past → MayMake race t actor how own ask → request v (state_of tag past.runs) ≡ Some ask
  own_request t actor how own ask past a h g there m =
      let one : MayInstance v how (nth t.pasts i) own ask = subst (λ x. MayMake race t x how own ask) a m in
      let two : MayInstance v Heard (Some past) own ask = subst (λ x. MayInstance v Heard x own ask) there (subst (λ x. MayInstance v x (nth t.pasts i) own ask) h one) in
      subst (λ x. request v (state_of x past.runs) ≡ Some ask) g two.1

  good_after : (w : Way) → OkWay w → (gs : Generations D) (f : FoundSoFar) (o o' : Owner) (t : Trace D Q C) (actor : Actor) (how : How) (own : ℕ) (ask : Request D Q) → Stand w gs f o t → MayMake race t actor how own ask → (actor ≡ Instance i → how ≡ Heard → own ≡ tag → ClearAt w t.store ask)
      → Holds o' (follow_over race t actor how own ask (serve race.select t.store ask).1 (serve race.select t.store ask).0) → (follow_over race t actor how own ask (serve race.select t.store ask).1 (serve race.select t.store ask).0).store ≡ (serve race.select t.store ask).0
      → (next : Past D Q) → nth (follow_over race t actor how own ask (serve race.select t.store ask).1 (serve race.select t.store ask).0).pasts i ≡ Some next → GoodAt w (serve race.select t.store ask).0 (heard_of tag next.runs) (state_of tag next.runs)
  good_after w ok gs f o o' t actor how own ask s m clear owned is next there =
      let b = went_over race t i tag actor how own ask (serve race.select t.store ask).1 (serve race.select t.store ask).0 next there in
      by b.past b.there b.went
    where
      st' : Store D
      st' = (serve race.select t.store ask).0

      later : Lasts t.store st'
      later = entry_later t actor how own ask s.facts m

      by : (past : Past D Q) → nth t.pasts i ≡ Some past → Went race i tag actor how own (serve race.select t.store ask).1 past next → GoodAt w st' (heard_of tag next.runs) (state_of tag next.runs)
      by past e (Stays other state heard) =
          subst (λ k. GoodAt w st' k (state_of tag next.runs)) (sym heard) (subst (GoodAt w st' (heard_of tag past.runs)) (sym state)
          (good_later race cur In Fresh_docs Empty Sound laws version_in knows pages paged i tag find w t.store st' (heard_of tag past.runs) (state_of tag past.runs) later (s.good past e)))
      by past e (Moves a h g state heard) =
          let own_cost = (owned i next there).cost tag in
          let cost' = subst (λ x. Cost race cur In Fresh_docs Empty Sound laws (pages i) v is_in (laws.not_outdated i) (paged i) st' (heard_of tag past.runs + 1) x) state
          (subst (λ k. Cost race cur In Fresh_docs Empty Sound laws (pages i) v is_in (laws.not_outdated i) (paged i) st' k (state_of tag next.runs)) heard
          (subst (λ x. Cost race cur In Fresh_docs Empty Sound laws (pages i) v is_in (laws.not_outdated i) (paged i) x (heard_of tag next.runs) (state_of tag next.runs)) is own_cost)) in
          subst (λ k. GoodAt w st' k (state_of tag next.runs)) (sym heard) (subst (GoodAt w st' (heard_of tag past.runs + 1)) (sym state)
          (own_good race cur In Fresh_docs Empty Sound laws version_in knows pages paged i tag find w t.store (heard_of tag past.runs) (state_of tag past.runs) ask s.facts.store
          (every_state (At t.store) tag past.runs tt (place_at (PastFacts race cur In Fresh_docs Empty Sound t.store) t.pasts i past s.facts.pasts e).runs) ok (own_request t actor how own ask past a h g e m)
          (s.good past e) (named_now w gs f o t s) (clear a h g) ((s.owned i past e).cost tag) cost' later))

  pub step : (w : Way) → OkWay w → (gs : Generations D) (f : FoundSoFar) (o : Owner) (t : Trace D Q C) (e : Entry D Q) → Stand w gs f o t → MayCome race t e → OnlyFor w (facts_of cur version_in f e.request e.reply) → (IsOwn i tag e → ClearAt w t.store e.request)
      → (gs' : Generations D) × (o' : Owner) × Stand w gs' (found_after cur f e.request e.reply) o' (followed race t e)
  unfolding followed MayCome
  step w ok gs f o t e s c only clear =
      let l = entry_leads race cur In Fresh_docs Empty Sound laws version_in gs f t e.actor e s.shows s.found s.facts c.0 c.1 in
      let r = entry_owned race cur In Fresh_docs Empty Sound laws pages paged o t e.actor e.how e.tag e.request s.facts s.owned c.0 in
      let is : (follow_over race t e.actor e.how e.tag e.request (serve race.select t.store e.request).1 (serve race.select t.store e.request).0).store ≡ (serve race.select t.store e.request).0 = store_after race cur In Fresh_docs Empty Sound laws version_in t e.actor e.how e.tag e.request (serve race.select t.store e.request).1 (serve race.select t.store e.request).0 in
      let same_trace : follow_over race t e.actor e.how e.tag e.request (serve race.select t.store e.request).1 (serve race.select t.store e.request).0 ≡ followed race t e = ap (λ reply. follow_over race t e.actor e.how e.tag e.request reply (serve race.select t.store e.request).0) (sym c.1) in
      let here = good_after w ok gs f o r.0 t e.actor e.how e.tag e.request s c.0 (λ a h g. clear (a, h, g)) r.1 is in (
        move gs l.m,
        r.0,
        record {
          shows = subst (λ (x : Trace D Q C). Shows cur In (move gs l.m) x.store) same_trace (subst (Shows cur In (move gs l.m)) (sym is) l.shows);
          found = l.found;
          facts = trace_step race cur In Fresh_docs Empty Sound laws t e s.facts c;
          owned = subst (Holds r.0) same_trace r.1;
          named = entry_named w gs t.store f.place e.actor e l.m s.shows.last l.may (subst (OnlyFor w) l.fact only) s.named;
          good = subst (λ (x : Trace D Q C). (past : Past D Q) → nth x.pasts i ≡ Some past → GoodAt w x.store (heard_of tag past.runs) (state_of tag past.runs)) same_trace
              (λ past there. subst (λ x. GoodAt w x (heard_of tag past.runs) (state_of tag past.runs)) (sym is) (here past there));
        },
      )

  -- along a journal
  pub along : (w : Way) → OkWay w → (gs : Generations D) (f : FoundSoFar) (o : Owner) (t : Trace D Q C) (j : List (Entry D Q)) → Stand w gs f o t → Conforms race t j → OnlyFor w (facts_from cur version_in f j) → AtOwn race i tag (ClearAt w) t j
      → (gs' : Generations D) × (f' : FoundSoFar) × (o' : Owner) × Stand w gs' f' o' (all_followed race t j)
  unfolding Conforms all_followed facts_from AtOwn
  along w ok gs f o t [] s c only clear = (gs, f, o, s)
  along w ok gs f o t (e ∷ j) s c only clear =
      let r = step w ok gs f o t e s c.0 (for_front w (facts_of cur version_in f e.request e.reply) (facts_from cur version_in (found_after cur f e.request e.reply) j) only) clear.0 in
      along w ok r.0 (found_after cur f e.request e.reply) r.1 (followed race t e) j r.2 c.1 (for_back w (facts_of cur version_in f e.request e.reply) (facts_from cur version_in (found_after cur f e.request e.reply) j) only) clear.1

  pub looks_first : (ask : Request D Q) → request v Init ≡ Some ask → Request.State ≡ ask
  unfolding request
  looks_first ask q = let z : Some Request.State ≡ Some ask = q in cc

  first_good : (w : Way) (t : Trace D Q C) (e : Entry D Q) (past : Past D Q) → IsOwn i tag e → nth t.pasts i ≡ Some past → state_of tag past.runs ≡ Init → heard_of tag past.runs ≡ 0 → Request.State ≡ e.request → GoodAt w t.store 1 (from_state v (Seen (seen t.store.indices) t.store.aliases))
      → (next : Past D Q) → nth (follow_over race t e.actor e.how e.tag e.request (serve race.select t.store e.request).1 (serve race.select t.store e.request).0).pasts i ≡ Some next → GoodAt w (serve race.select t.store e.request).0 (heard_of tag next.runs) (state_of tag next.runs)
  unfolding serve moved
  first_good w t e past own there init none is good next g =
      let b = went_over race t i tag e.actor e.how e.tag e.request (serve race.select t.store e.request).1 (serve race.select t.store e.request).0 next g in
      by b.past b.there b.went
    where
      begun : GoodAt w (serve race.select t.store e.request).0 1 (moved v Init (serve race.select t.store e.request).1)
      begun = subst (λ ask. GoodAt w (serve race.select t.store ask).0 1 (moved v Init (serve race.select t.store ask).1)) is good

      by : (p : Past D Q) → nth t.pasts i ≡ Some p → Went race i tag e.actor e.how e.tag (serve race.select t.store e.request).1 p next → GoodAt w (serve race.select t.store e.request).0 (heard_of tag next.runs) (state_of tag next.runs)
      by p f (Stays other state heard) = absurd (other own.0 own.1 own.2)
      by p f (Moves a h k state heard) =
          let one : past ≡ p = some_same past p (nth t.pasts i) there f in
          let was : state_of tag p.runs ≡ Init = subst (λ (x : Past D Q). state_of tag x.runs ≡ Init) one init in
          let count : heard_of tag next.runs ≡ 1 = heard ∙ ap (λ n. n + 1) (subst (λ (x : Past D Q). heard_of tag x.runs ≡ 0) one none) in
          let now : state_of tag next.runs ≡ moved v Init (serve race.select t.store e.request).1 = state ∙ ap (λ x. moved v x (serve race.select t.store e.request).1) was in
          subst (λ n. GoodAt w (serve race.select t.store e.request).0 n (state_of tag next.runs)) (sym count) (subst (GoodAt w (serve race.select t.store e.request).0 1) (sym now) begun)

  -- the start's own first entry
  pub first_step : (w : Way) (gs : Generations D) (f : FoundSoFar) (o : Owner) (t : Trace D Q C) (e : Entry D Q) (past : Past D Q) → Shows cur In gs t.store → FoundOk In f gs → TraceOk t → Holds o t → NamedAt w (last_index (last_generation gs)) → MayCome race t e → OnlyFor w (facts_of cur version_in f e.request e.reply)
      → IsOwn i tag e → nth t.pasts i ≡ Some past → state_of tag past.runs ≡ Init → heard_of tag past.runs ≡ 0 → GoodAt w t.store 1 (from_state v (Seen (seen t.store.indices) t.store.aliases))
      → (gs' : Generations D) × (o' : Owner) × Stand w gs' (found_after cur f e.request e.reply) o' (followed race t e)
  unfolding followed MayCome
  first_step w gs f o t e past shows found facts owned named c only own there init none good =
      let l = entry_leads race cur In Fresh_docs Empty Sound laws version_in gs f t e.actor e shows found facts c.0 c.1 in
      let r = entry_owned race cur In Fresh_docs Empty Sound laws pages paged o t e.actor e.how e.tag e.request facts owned c.0 in
      let is : (follow_over race t e.actor e.how e.tag e.request (serve race.select t.store e.request).1 (serve race.select t.store e.request).0).store ≡ (serve race.select t.store e.request).0 = store_after race cur In Fresh_docs Empty Sound laws version_in t e.actor e.how e.tag e.request (serve race.select t.store e.request).1 (serve race.select t.store e.request).0 in
      let same_trace : follow_over race t e.actor e.how e.tag e.request (serve race.select t.store e.request).1 (serve race.select t.store e.request).0 ≡ followed race t e = ap (λ reply. follow_over race t e.actor e.how e.tag e.request reply (serve race.select t.store e.request).0) (sym c.1) in
      let asks : request v Init ≡ Some e.request = subst (λ x. request v x ≡ Some e.request) init (own_request t e.actor e.how e.tag e.request past own.0 own.1 own.2 there c.0) in
      let good_next = first_good w t e past own there init none (looks_first e.request asks) good in (
        move gs l.m,
        r.0,
        record {
          shows = subst (λ (x : Trace D Q C). Shows cur In (move gs l.m) x.store) same_trace (subst (Shows cur In (move gs l.m)) (sym is) l.shows);
          found = l.found;
          facts = trace_step race cur In Fresh_docs Empty Sound laws t e facts c;
          owned = subst (Holds r.0) same_trace r.1;
          named = entry_named w gs t.store f.place e.actor e l.m shows.last l.may (subst (OnlyFor w) l.fact only) named;
          good = subst (λ (x : Trace D Q C). (next : Past D Q) → nth x.pasts i ≡ Some next → GoodAt w x.store (heard_of tag next.runs) (state_of tag next.runs)) same_trace
              (λ next g. subst (λ x. GoodAt w x (heard_of tag next.runs) (state_of tag next.runs)) (sym is) (good_next next g));
        },
      )
