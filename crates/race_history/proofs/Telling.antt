-- Each entry is a move of the generations, and each client is told what its own generation tells.
use Rattle.std.proofs.Common.{◌≡◌, ◌≢◌, ℕ, List, [], ◌∷◌, Bool, true, false, Option, Some, None, refl, sym, ◌∙◌, ap, subst}
use mathlib.Core.Logic.◌⊎◌.{inl, inr}
use Rattle.base_model.specs.Keyed.{Text, at}
use Rattle.race_model.specs.Stores.{Index, Store, Write, Request, Reply, serve, write_all, meant, with_index, bulk_over, bulk_in, get_over, search_over}
use Rattle.race_model.specs.Stores.Request.{Ping, Get, Search, Bulk}
use Rattle.race_model.specs.History.{FoundSoFar, facts_of, found_after}
use Rattle.race_model.specs.Machines.{Settings}
use Rattle.race_model.specs.Generations.{Generation, Generations, Move, of_alias, told_by, left_by, written_in, with_table, get_in, search_in, bulk_reply, bulk_in_one, move}
use Rattle.race_model.specs.Worlds.{Race, Actor, How, Entry, Caller, nth}
use Rattle.race_model.specs.Worlds.Actor.{Instance, Client}
use Rattle.race_model.specs.Journals.{Past, Trace, MayInstance, MayClient, MayMake, follow_over, followed, all_followed, MayCome, Conforms}
use Rattle.race_tables.proofs.Keys.{same_is, at_put_same, at_put_other}
use Rattle.race_tables.proofs.Lists.{every_nth}
use Rattle.race_tables.proofs.Requests.{meant_itself, meant_alias}
use Rattle.race_model.specs.Premises.{NamesApart, AsksOf, RaceLaws}
use Rattle.race_history.specs.Generated.{shown_of}
use Rattle.race_model.specs.Runs.{last_generation, EntryIs, fact_of, IsRun}
use Rattle.race_facts.proofs.Facts.{Installed, StoreOk}
use Rattle.race_facts.proofs.Racing.{TraceFacts, PastFacts, place_at, made_cond, no_instance, no_client, client_asks, trace_step}
use Rattle.race_history.proofs.Lining.{LastIs, written_here, written_other, written_none, written_once, written_last}
use Rattle.race_history.proofs.Histories.{Shows, LastOn, FoundOk, last_index, flag, instance_leads}
use Rattle.race_history.proofs.Histories.LastOn.{No_last, The_last}

module _ {D Q C : Type 0} (race : Race D Q C) (cur : Text) (In : Settings D Q → Type 0) (Fresh : Settings D Q → Text → D → Type 0) (Empty : Type 0) (Sound : C → Type 0) (laws : RaceLaws race cur In Fresh Sound) (version_in : Text → Option Text) where
  abbrev Ok : Store D → Type 0
  Ok st = StoreOk cur In Fresh Empty st

  abbrev names : NamesApart cur In
  names = laws.names

  abbrev Displays : Generations D → Store D → Type 0
  Displays gs st = Shows cur In gs st

  -- a client is told what its generation tells
  abbrev Tells : Generations D → Store D → Request D Q → Type 0
  Tells gs st ask = ((serve race.select st ask).1 ≡ told_by race.select gs ask) × Displays (left_by gs ask) (serve race.select st ask).0

  -- the version is installed with this index, or neither the store nor the generations have it
  pub data Meets (gs : Generations D) (st : Store D) (v : Settings D Q) : Type 0 where
    Missing : at (meant st v.version) st.indices ≡ None → of_alias v.version gs ≡ None → Meets gs st v
    Stands_there : (ix : Index D) → Installed v st.aliases → meant st v.version ≡ v.target → at v.target st.indices ≡ Some ix → of_alias v.version gs ≡ Some (record { alias = v.version; index = v.target; blocked = ix.blocked; table = ix.table }) → Meets gs st v

  meets : (gs : Generations D) (st : Store D) (v : Settings D Q) → Displays gs st → Ok st → In v → Meets gs st v
  meets gs st v s a i = elim (a.aliases.versions v i) [
    | inl not ↦ Missing (rw (meant_itself st v.version not) (a.no_ver_index v i)) (s.each v i ∙ rw not refl)
    | inr x ↦ (let t = a.there v i x in Stands_there t.0 x (meant_alias st v.version v.target (a.no_ver_index v i) x) t.1 (s.each v i ∙ rw (x, t.1) refl))
  ]

  get_told : (gs : Generations D) (st : Store D) (v : Settings D Q) (raws : List Text) → Displays gs st → Ok st → In v → get_over (at (meant st v.version) st.indices) v.version raws ≡ get_in (of_alias v.version gs) v.version raws
  get_told gs st v raws s a i = by (meets gs st v s a i)
    where
      by : Meets gs st v → get_over (at (meant st v.version) st.indices) v.version raws ≡ get_in (of_alias v.version gs) v.version raws
      by (Missing none none_of) = rw (none, none_of) refl
      by (Stands_there ix x is there found) = rw (is, there, found) refl

  search_told : (gs : Generations D) (st : Store D) (v : Settings D Q) (query : Q) → Displays gs st → Ok st → In v → search_over race.select (at (meant st v.version) st.indices) v.version query ≡ search_in race.select (of_alias v.version gs) v.version query
  search_told gs st v query s a i = by (meets gs st v s a i)
    where
      by : Meets gs st v → search_over race.select (at (meant st v.version) st.indices) v.version query ≡ search_in race.select (of_alias v.version gs) v.version query
      by (Missing none none_of) = rw (none, none_of) refl
      by (Stands_there ix x is there found) = rw (is, there, found) refl

  abbrev BulkTells : Generations D → Store D → Settings D Q → List (Write D) → Type 0
  BulkTells gs st v ws = ((bulk_over (at (meant st v.version) st.indices) st v.version (meant st v.version) ws).1 ≡ bulk_in_one (of_alias v.version gs) v.version ws)
      × Displays (written_in v.version ws gs) (bulk_over (at (meant st v.version) st.indices) st v.version (meant st v.version) ws).0

  written_last_on : (m : Text) (ws : List (Write D)) (gs : Generations D) (st st' : Store D) → st'.aliases ≡ st.aliases → LastOn cur In gs st → LastOn cur In (written_in m ws gs) st'
  unfolding written_in
  written_last_on m ws gs st st' e (No_last none off) = No_last (rw none refl) (ap (at cur) e ∙ off)
  written_last_on m ws gs st st' e (The_last w j l on) = The_last w j (written_last m ws gs w.version w.target l) (ap (at cur) e ∙ on)

  bulk_told : (gs : Generations D) (st : Store D) (v : Settings D Q) (ws : List (Write D)) → Displays gs st → Ok st → In v → BulkTells gs st v ws
  bulk_told gs st v ws s a i = by (meets gs st v s a i)
    where
      by : Meets gs st v → BulkTells gs st v ws
      by (Missing none none_of) = rw (none, none_of, written_none v.version ws gs none_of) (refl, s)
      by (Stands_there ix x is there found) = rw (is, there, found) (here ix.blocked refl)
        where
          g : Generation D
          g = record { alias = v.version; index = v.target; blocked = ix.blocked; table = ix.table }

          here : (b : Bool) → ix.blocked ≡ b → ((bulk_in b ix st v.target ws).1 ≡ bulk_reply b g ws) × Displays (written_in v.version ws gs) (bulk_in b ix st v.target ws).0
          here true q = (
            refl,
            record {
              each = λ w j. elim (names.apart w v j i) [
                | inl z ↦ subst (λ y. of_alias y.version (written_in v.version ws gs) ≡ shown_of y st) (sym z) (written_here v.version ws gs g found ∙ ap (λ b. Some (with_table b g ws)) q ∙ sym found ∙ s.each v i)
                | inr o ↦ written_other v.version ws gs w.version o.0 ∙ s.each w j
              ];
              last = written_last_on v.version ws gs st st refl s.last;
              once = written_once v.version ws gs s.once;
            },
          )
          here false q =
              let new : Index D = record { blocked = false; source = ix.source; table = write_all ix.table ws } in
              let st' : Store D = with_index st v.target new in (
                refl,
                record {
                  each = λ w j. elim (names.apart w v j i) [
                    | inl z ↦ subst (λ y. of_alias y.version (written_in v.version ws gs) ≡ shown_of y st') (sym z) (written_here v.version ws gs g found ∙ ap (λ b. Some (with_table b g ws)) q ∙ rw (x, at_put_same v.target new st.indices) refl)
                    | inr o ↦ written_other v.version ws gs w.version o.0 ∙ s.each w j ∙ rw (at_put_other w.target v.target new st.indices o.1) refl
                  ];
                  last = written_last_on v.version ws gs st st' refl s.last;
                  once = written_once v.version ws gs s.once;
                },
              )

  pub client_tells : (gs : Generations D) (st : Store D) (ask : Request D Q) → Displays gs st → Ok st → AsksOf In Fresh ask → Tells gs st ask
  unfolding serve told_by left_by
  client_tells gs st Ping s a c = (refl, s)
  client_tells gs st (Get name raws) s a c = (subst (λ n. get_over (at (meant st n) st.indices) n raws ≡ get_in (of_alias n gs) n raws) (sym c.2) (get_told gs st c.0 raws s a c.1), s)
  client_tells gs st (Search name query) s a c = (subst (λ n. search_over race.select (at (meant st n) st.indices) n query ≡ search_in race.select (of_alias n gs) n query) (sym c.2) (search_told gs st c.0 query s a c.1), s)
  client_tells gs st (Bulk name ws) s a c =
      subst (λ n. ((bulk_over (at (meant st n) st.indices) st n (meant st n) ws).1 ≡ bulk_in_one (of_alias n gs) n ws) × Displays (written_in n ws gs) (bulk_over (at (meant st n) st.indices) st n (meant st n) ws).0) (sym c.2) (bulk_told gs st c.0 ws s a c.1)
  client_tells gs st _ s a c = absurd c

  -- and what was found stays
  abbrev StillFound : FoundSoFar → Generations D → Request D Q → Reply D → Type 0
  StillFound f gs ask reply = (facts_of cur version_in f ask reply ≡ []) × FoundOk In (found_after cur f ask reply) (left_by gs ask)

  with_flag : (b : Bool) (g : Generation D) (ws : List (Write D)) → g.blocked ≡ b → (with_table b g ws).blocked ≡ b
  with_flag true g ws e = e
  with_flag false g ws e = refl

  last_of_written : (m : Text) (ws : List (Write D)) (gs : Generations D) (o : Option (Generation D)) → last_generation gs ≡ o → last_index (last_generation gs) ≡ last_index (last_generation (written_in m ws gs))
  unfolding last_generation written_in
  last_of_written m ws [] o e = refl
  last_of_written m ws (g ∷ gs) None e = absurd (some_last g gs e)
    where
      some_last : (g : Generation D) (gs : Generations D) → last_generation (g ∷ gs) ≢ None
      some_last g [] e = cc
      some_last g (h ∷ gs) e = some_last h gs e
  last_of_written m ws (g ∷ gs) (Some l) e =
      let w : LastIs (written_in m ws (g ∷ gs)) l.alias l.index = written_last m ws (g ∷ gs) l.alias l.index (record { last = l; is_last = e; under = refl; of = refl }) in
      ap last_index e ∙ ap (λ z. Some z) (sym w.of) ∙ ap last_index (sym w.is_last)

  written_flag : (m : Text) (ws : List (Write D)) (gs : Generations D) (n : Text) → flag (of_alias n gs) ≡ flag (of_alias n (written_in m ws gs))
  written_flag m ws gs n = elim (same_is n m) [
    | inl p ↦ subst (λ z. flag (of_alias z gs) ≡ flag (of_alias z (written_in m ws gs))) (sym p.1) (by (of_alias m gs) refl)
    | inr x ↦ ap flag (sym (written_other m ws gs n x.1))
  ]
    where
      by : (o : Option (Generation D)) → of_alias m gs ≡ o → flag (of_alias m gs) ≡ flag (of_alias m (written_in m ws gs))
      by None e = ap (λ z. flag (of_alias m z)) (sym (written_none m ws gs e))
      by (Some g) e = ap flag e ∙ sym (with_flag g.blocked g ws refl) ∙ ap flag (sym (written_here m ws gs g e))

  client_found : (f : FoundSoFar) (gs : Generations D) (ask : Request D Q) (reply : Reply D) → FoundOk In f gs → AsksOf In Fresh ask → StillFound f gs ask reply
  unfolding left_by
  client_found f gs Ping reply k c = (refl, record { on = k.on; listed = k.listed })
  client_found f gs (Get name raws) reply k c = (refl, record { on = k.on; listed = k.listed })
  client_found f gs (Search name query) reply k c = (refl, record { on = k.on; listed = k.listed })
  client_found f gs (Bulk name ws) reply k c = (refl, record { on = k.on ∙ last_of_written name ws gs (last_generation gs) refl; listed = λ v i. k.listed v i ∙ written_flag name ws gs v.version })
  client_found f gs _ reply k c = absurd c

  -- along a journal
  abbrev TraceOk : Trace D Q C → Type 0
  TraceOk t = TraceFacts race cur In Fresh Empty Sound t

  pub record EntryLeads (gs : Generations D) (f : FoundSoFar) (t : Trace D Q C) (actor : Actor) (e : Entry D Q) : Type 0 where
    pub m : Move D Q
    pub may : EntryIs race gs actor e m
    pub shows : Shows cur In (move gs m) (serve race.select t.store e.request).0
    pub fact : facts_of cur version_in f e.request e.reply ≡ fact_of version_in f.place m
    pub found : FoundOk In (found_after cur f e.request e.reply) (move gs m)

  pub entry_leads : (gs : Generations D) (f : FoundSoFar) (t : Trace D Q C) (actor : Actor) (e : Entry D Q) → Displays gs t.store → FoundOk In f gs → TraceOk t → MayMake race t actor e.how e.tag e.request → e.reply ≡ (serve race.select t.store e.request).1 → EntryLeads gs f t actor e
  entry_leads gs f t (Instance i) e s k a m r = by (nth t.pasts i) refl m
    where
      by : (o : Option (Past D Q)) → nth t.pasts i ≡ o → MayInstance (race.settings i) e.how o e.tag e.request → EntryLeads gs f t (Instance i) e
      by None q x = absurd (no_instance race cur In Fresh Empty Sound laws (race.settings i) e.how e.tag e.request x)
      by (Some past) q x =
          let l = instance_leads race cur In Fresh Empty Sound laws version_in (race.settings i) gs f t.store e.request s k a.store (laws.runs i) (made_cond race cur In Fresh Empty Sound laws t.store i e.how past e.tag e.request (place_at (PastFacts race cur In Fresh Empty Sound t.store) t.pasts i past a.pasts q) x) in
          record {
            m = l.m;
            may = l.may;
            shows = l.shows;
            fact = subst (λ z. facts_of cur version_in f e.request z ≡ fact_of version_in f.place l.m) (sym r) l.fact;
            found = subst (λ z. FoundOk In (found_after cur f e.request z) (move gs l.m)) (sym r) l.found;
          }
  entry_leads gs f t (Client n) e s k a m r = by (nth t.callers n) refl m
    where
      by : (o : Option (Caller C)) → nth t.callers n ≡ o → MayClient race.clients e.how o e.tag e.request → EntryLeads gs f t (Client n) e
      by None q x = absurd (no_client race cur In Fresh Empty Sound laws e.how e.tag e.request x)
      by (Some caller) q x =
          let sound : Sound caller.script = every_nth (λ (c : Caller C). Sound c.script) t.callers n caller a.callers q in
          let of : AsksOf In Fresh e.request = laws.asks caller.script e.request sound (client_asks race cur In Fresh Empty Sound laws e.how caller e.tag e.request x) in
          let told = client_tells gs t.store e.request s a.store of in
          let still = client_found f gs e.request e.reply k of in
          record { m = Move.Ask e.request; may = (refl, r ∙ told.0); shows = told.1; fact = still.0; found = still.1 }

  pub store_after : (t : Trace D Q C) (actor : Actor) (how : How) (tag : ℕ) (ask : Request D Q) (reply : Reply D) (st : Store D) → (follow_over race t actor how tag ask reply st).store ≡ st
  store_after t (Instance i) how tag ask reply st = refl
  store_after t (Client k) how tag ask reply st = refl

  -- the journal is a run, to generations that its store shows
  pub runs : (gs : Generations D) (f : FoundSoFar) (t : Trace D Q C) (j : List (Entry D Q)) → Displays gs t.store → FoundOk In f gs → TraceOk t → Conforms race t j → (last : Generations D) × IsRun race cur version_in f gs j last × Displays last (all_followed race t j).store
  unfolding Conforms IsRun MayCome followed all_followed
  runs gs f t [] s k a c = (gs, refl, s)
  runs gs f t (e ∷ j) s k a c =
      let l = entry_leads gs f t e.actor e s k a c.0.0 c.0.1 in
      let r = runs (move gs l.m) (found_after cur f e.request e.reply) (followed race t e) j (subst (Displays (move gs l.m)) (sym (store_after t e.actor e.how e.tag e.request e.reply (serve race.select t.store e.request).0)) l.shows) l.found (trace_step race cur In Fresh Empty Sound laws t e a c.0) c.1 in
      (r.0, (l.m, l.may, l.fact, r.1), r.2)
