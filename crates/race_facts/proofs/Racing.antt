-- The facts hold along every journal that conforms, once the source is blocked.
use Rattle.std.proofs.Common.{◌≡◌, ℕ, zero, suc, List, [], ◌∷◌, Bool, true, false, Option, Some, None, refl, sym, subst, if◌then◌else◌, ◌==◌, ◌≢◌, ◌⊎◌, ◌∙◌, ap, arith}
use mathlib.Core.Logic.◌⊎◌.{inl, inr}
use Rattle.base_model.specs.Keyed.{Text, at}
use Rattle.race_model.specs.Stores.{Store, Request, serve, Index, Write, write_all, meant, bulk_over, bulk_in, get_over, search_over}
use Rattle.race_model.specs.Machines.{Settings, State}
use Rattle.race_model.specs.Machines.State.{Init}
use Rattle.race_model.specs.Worlds.{Clients, Actor, How, Entry, Caller, nth, with_nth, asked_of, Race}
use Rattle.race_model.specs.Worlds.Actor.{Instance, Client}
use Rattle.race_model.specs.Worlds.How.{Heard, Unheard, Late}
use Rattle.race_model.specs.Journals.{Run, Past, Trace, state_of, MayInstance, MayClient, MayMake, past_after, pasts_after, caller_after, callers_after, follow_over, followed, MayCome, Conforms, all_followed}
use Rattle.std.proofs.lemmas.Bool.Decides.{nat_tests}
use Rattle.race_model.specs.Stores.Request.{Ping, Get, Search, Bulk}
use Rattle.race_model.specs.Premises.{IsOf, FreshWrites, FreshReply, AsksOf, RaceLaws}
use Rattle.race_tables.proofs.Tables.{sorted_writes}
use Rattle.race_tables.proofs.Lists.{some_same, Every, every_more, every_nth, every_with, every_has}
use Rattle.race_tables.proofs.Requests.{meant_itself, meant_alias, fresh_write_all, fresh_found}
use Rattle.race_follow.proofs.Following.{nth_other, nth_here}
use Rattle.race_facts.proofs.Facts.{Installed, StoreOk, Later, Cond, StateOk, cond_later, state_later}
use Rattle.race_facts.proofs.Serving.{Served, same_store, not_both, put_target}
use Rattle.race_facts.proofs.Switching.{request_served}
use Rattle.race_facts.proofs.Moving.{asks_cond, moves}

pub every_state : {D : Type 0} (P : State D → Type 0) (tag : ℕ) (runs : List (Run D)) → P Init → Every (λ r. P r.state) runs → P (state_of tag runs)
unfolding Every state_of
every_state P tag [] i a = i
every_state P tag (r ∷ runs) i a = by (tag == r.tag) (every_state P tag runs i a.1)
  where
    by : (t : Bool) → P (state_of tag runs) → P (if t then r.state else state_of tag runs)
    by true rest = a.0
    by false rest = rest

-- a client that has a request isn't cut
pub uncut_asks : {D Q C : Type 0} (clients : Clients D Q C) (cut : Bool) (script : C) (ask : Request D Q) → asked_of clients cut script ≡ Some ask → clients.asks script ≡ Some ask
uncut_asks clients true script ask e = absurd (cc)
uncut_asks clients false script ask e = e

-- something holds of each element with its place
unfoldable pub EachPlace : {A : Type 0} → (ℕ → A → Type 0) → List A → Type 0
EachPlace {A = A} P xs = (i : ℕ) (x : A) → nth xs i ≡ Some x → P i x

pub place_with : {A : Type 0} (P : ℕ → A → Type 0) (xs : List A) (i : ℕ) (x0 y : A) → EachPlace P xs → nth xs i ≡ Some x0 → P i y → EachPlace P (with_nth xs i y)
unfolding EachPlace
place_with {A = A} P xs i x0 y a e h = λ j x f. by j x (i == j) refl f
  where
    by : (j : ℕ) (x : A) (t : Bool) → (i == j) ≡ t → nth (with_nth xs i y) j ≡ Some x → P j x
    by j x true q f =
        let same_place : i ≡ j = grind (arith, nat_tests) in
        let here : nth (with_nth xs i y) j ≡ Some y = subst (λ k. nth (with_nth xs i y) k ≡ Some y) same_place (nth_here xs i x0 y e) in
        let same_one : y ≡ x = let z : Some y ≡ Some x = sym here ∙ f in cc in
        subst (P j) same_one (subst (λ k. P k y) same_place h)
    by j x false q f = let other : i ≢ j = λ z. grind (arith, nat_tests) in a j x (sym (nth_other xs i j y other) ∙ f)

place_more : {A : Type 0} (P R : ℕ → A → Type 0) (xs : List A) → ((i : ℕ) (x : A) → P i x → R i x) → EachPlace P xs → EachPlace R xs
unfolding EachPlace
place_more P R xs f a = λ i x e. f i x (a i x e)

pub place_at : {A : Type 0} (P : ℕ → A → Type 0) (xs : List A) (i : ℕ) (x : A) → EachPlace P xs → nth xs i ≡ Some x → P i x
unfolding EachPlace
place_at P xs i x a e = a i x e

module _ {D Q C : Type 0} (race : Race D Q C) (cur : Text) (In : Settings D Q → Type 0) (Fresh : Settings D Q → Text → D → Type 0) (Empty : Type 0) (Sound : C → Type 0) where
  -- what holds of an instance: each of its starts, and each request of its entries
  pub record PastFacts (st : Store D) (i : ℕ) (past : Past D Q) : Type 0 where
    pub runs : Every (λ r. StateOk cur In Fresh Empty (race.settings i) st r.state) past.runs
    pub asked : Every (λ ask. Cond cur In Fresh Empty (race.settings i) st ask) past.asked

  pub record TraceFacts (t : Trace D Q C) : Type 0 where
    pub store : StoreOk cur In Fresh Empty t.store
    pub pasts : EachPlace (PastFacts t.store) t.pasts
    pub callers : Every (λ (c : Caller C). Sound c.script) t.callers

module _ {D Q C : Type 0} (race : Race D Q C) (cur : Text) (In : Settings D Q → Type 0) (Fresh : Settings D Q → Text → D → Type 0) (Empty : Type 0) (Sound : C → Type 0) (laws : RaceLaws race cur In Fresh Sound) where
  abbrev Ok : Store D → Type 0
  Ok st = StoreOk cur In Fresh Empty st

  abbrev Keeps : Store D → Store D → Type 0
  Keeps st st' = Served race cur In Fresh Empty Sound laws st st'

  -- what a version's alias stands for
  means : (st : Store D) (v : Settings D Q) → Ok st → In v → (at (meant st v.version) st.indices ≡ None) ⊎ ((meant st v.version ≡ v.target) × Installed v st.aliases)
  means st v a i = elim (a.aliases.versions v i) [
    | inl not ↦ inl (rw (meant_itself st v.version not) (a.no_ver_index v i))
    | inr x ↦ inr (meant_alias st v.version v.target (a.no_ver_index v i) x, x)
  ]

  bulk_target : (st : Store D) (v : Settings D Q) (name : Text) (ws : List (Write D)) (o : Option (Index D)) → Ok st → In v → Installed v st.aliases → FreshWrites (Fresh v) ws → at v.target st.indices ≡ o → Keeps st (bulk_over o st name v.target ws).0
  bulk_target st v name ws None a i x f e = same_store race cur In Fresh Empty Sound laws st a
  bulk_target st v name ws (Some ix) a i x f e = by ix.blocked refl
    where
      by : (b : Bool) → ix.blocked ≡ b → Keeps st (bulk_in b ix st v.target ws).0
      by true g = same_store race cur In Fresh Empty Sound laws st a
      by false g = put_target race cur In Fresh Empty Sound laws st v (record { blocked = false; source = ix.source; table = write_all ix.table ws }) a i (sorted_writes ix.table ws (a.sorted v i ix e)) (fresh_write_all (Fresh v) ix.table ws (a.fresh v i ix e) f)
          (λ not. not_both race cur In Fresh Empty Sound laws st v not x) (λ y b. a.open_last v i x ix e g)
          (λ old h. let is : ix ≡ old = some_same ix old (at v.target st.indices) e h in (ap (λ (z : Index D). z.source) is, λ b. absurd (let c : old.blocked ≡ false = subst (λ (z : Index D). z.blocked ≡ false) is g in let z : true ≡ false = sym b ∙ c in cc)))

  bulk_served : (st : Store D) (v : Settings D Q) (name : Text) (ws : List (Write D)) → Ok st → In v → name ≡ v.version → FreshWrites (Fresh v) ws → Keeps st (bulk_over (at (meant st name) st.indices) st name (meant st name) ws).0
  bulk_served st v name ws a i e f = subst (λ n. Keeps st (bulk_over (at (meant st n) st.indices) st n (meant st n) ws).0) (sym e) (elim (means st v a i) [
    | inl none ↦ rw none (same_store race cur In Fresh Empty Sound laws st a)
    | inr is ↦ subst (λ n. Keeps st (bulk_over (at n st.indices) st v.version n ws).0) (sym is.0) (bulk_target st v v.version ws (at v.target st.indices) a i is.1 f refl)
  ])

  pub client_served : (st : Store D) (ask : Request D Q) → Ok st → AsksOf In Fresh ask → Keeps st (serve race.select st ask).0
  unfolding serve
  client_served st Ping a c = same_store race cur In Fresh Empty Sound laws st a
  client_served st (Get name raws) a c = same_store race cur In Fresh Empty Sound laws st a
  client_served st (Search name query) a c = same_store race cur In Fresh Empty Sound laws st a
  client_served st (Bulk name ws) a c = bulk_served st c.0 name ws a c.1 c.2 c.3
  client_served st _ a c = absurd c

  get_fresh : (st : Store D) (v : Settings D Q) (name : Text) (raws : List Text) → Ok st → In v → name ≡ v.version → FreshReply (Fresh v) (get_over (at (meant st name) st.indices) name raws)
  get_fresh st v name raws a i e = subst (λ n. FreshReply (Fresh v) (get_over (at (meant st n) st.indices) n raws)) (sym e) (elim (means st v a i) [
    | inl none ↦ rw none tt
    | inr is ↦ rw is.0 (by (at v.target st.indices) refl)
  ])
    where
      by : (o : Option (Index D)) → at v.target st.indices ≡ o → FreshReply (Fresh v) (get_over o v.version raws)
      by None f = tt
      by (Some ix) f = fresh_found (Fresh v) ix.table.rows raws (a.fresh v i ix f)

  search_fresh : (st : Store D) (v : Settings D Q) (name : Text) (query : Q) → Ok st → In v → name ≡ v.version → FreshReply (Fresh v) (search_over race.select (at (meant st name) st.indices) name query)
  search_fresh st v name query a i e = subst (λ n. FreshReply (Fresh v) (search_over race.select (at (meant st n) st.indices) n query)) (sym e) (elim (means st v a i) [
    | inl none ↦ rw none tt
    | inr is ↦ rw is.0 (by (at v.target st.indices) refl)
  ])
    where
      by : (o : Option (Index D)) → at v.target st.indices ≡ o → FreshReply (Fresh v) (search_over race.select o v.version query)
      by None f = tt
      by (Some ix) f = laws.selects_fresh v i query ix.table.rows (a.fresh v i ix f)

  pub client_shown : (st : Store D) (ask : Request D Q) → Ok st → (v : Settings D Q) → In v → IsOf v.version ask → FreshReply (Fresh v) (serve race.select st ask).1
  unfolding serve
  client_shown st Ping a v i c = absurd c
  client_shown st (Get name raws) a v i c = get_fresh st v name raws a i c
  client_shown st (Search name query) a v i c = search_fresh st v name query a i c
  client_shown st _ a v i c = absurd c

  abbrev PastOk : Store D → ℕ → Past D Q → Type 0
  PastOk st i past = PastFacts race cur In Fresh Empty Sound st i past

  abbrev TraceOk : Trace D Q C → Type 0
  TraceOk t = TraceFacts race cur In Fresh Empty Sound t

  past_later : (st st' : Store D) → Later cur In Fresh Empty st st' → (i : ℕ) (past : Past D Q) → PastOk st i past → PastOk st' i past
  past_later st st' later i past a = record {
    runs = every_more (λ r. StateOk cur In Fresh Empty (race.settings i) st r.state) (λ r. StateOk cur In Fresh Empty (race.settings i) st' r.state) past.runs (λ r. state_later cur In Fresh Empty st st' later (race.settings i) r.state (laws.runs i)) a.runs;
    asked = every_more (λ ask. Cond cur In Fresh Empty (race.settings i) st ask) (λ ask. Cond cur In Fresh Empty (race.settings i) st' ask) past.asked (λ ask. cond_later cur In Fresh Empty st st' later (race.settings i) ask (laws.runs i)) a.asked;
  }

  -- the request of an entry of an instance has its condition
  pub made_cond : (st : Store D) (i : ℕ) (how : How) (past : Past D Q) (tag : ℕ) (ask : Request D Q) → PastOk st i past → MayInstance (race.settings i) how (Some past) tag ask → Cond cur In Fresh Empty (race.settings i) st ask
  made_cond st i how past tag ask a m = by how m
    where
      own : (g : ℕ) → StateOk cur In Fresh Empty (race.settings i) st (state_of g past.runs)
      own g = every_state (StateOk cur In Fresh Empty (race.settings i) st) g past.runs tt a.runs

      by : (h : How) → MayInstance (race.settings i) h (Some past) tag ask → Cond cur In Fresh Empty (race.settings i) st ask
      by Late (inl k) = every_has (λ q. Cond cur In Fresh Empty (race.settings i) st q) past.asked ask a.asked k
      by Late (inr k) = asks_cond race cur In Fresh Empty Sound laws (race.settings i) (laws.runs i) (laws.not_outdated i) st (state_of k.0 past.runs) ask (own k.0) k.1
      by Heard k = asks_cond race cur In Fresh Empty Sound laws (race.settings i) (laws.runs i) (laws.not_outdated i) st (state_of tag past.runs) ask (own tag) k.1
      by Unheard k = asks_cond race cur In Fresh Empty Sound laws (race.settings i) (laws.runs i) (laws.not_outdated i) st (state_of tag past.runs) ask (own tag) k.1

  -- an instance's entry keeps what holds of the instance
  pub past_kept : (st : Store D) (i : ℕ) (how : How) (past : Past D Q) (tag : ℕ) (ask : Request D Q) → Ok st → PastOk st i past → MayInstance (race.settings i) how (Some past) tag ask
      → PastOk (serve race.select st ask).0 i (past_after (race.settings i) how past tag ask (serve race.select st ask).1)
  unfolding Every
  past_kept st i how past tag ask ok a m = by how m
    where
      cond : Cond cur In Fresh Empty (race.settings i) st ask
      cond = made_cond st i how past tag ask a m

      later : Later cur In Fresh Empty st (serve race.select st ask).0
      later = (request_served race cur In Fresh Empty Sound laws st (race.settings i) ask ok (laws.runs i) cond).later

      moved_past : PastOk (serve race.select st ask).0 i past
      moved_past = past_later st (serve race.select st ask).0 later i past a

      state : StateOk cur In Fresh Empty (race.settings i) st (state_of tag past.runs)
      state = every_state (StateOk cur In Fresh Empty (race.settings i) st) tag past.runs tt a.runs

      cond_after : Cond cur In Fresh Empty (race.settings i) (serve race.select st ask).0 ask
      cond_after = cond_later cur In Fresh Empty st (serve race.select st ask).0 later (race.settings i) ask (laws.runs i) cond

      by : (h : How) → MayInstance (race.settings i) h (Some past) tag ask → PastOk (serve race.select st ask).0 i (past_after (race.settings i) h past tag ask (serve race.select st ask).1)
      by Late k = record { runs = moved_past.runs; asked = (cond_after, moved_past.asked) }
      by Heard k = record { runs = (moves race cur In Fresh Empty Sound laws (race.settings i) (laws.runs i) (laws.not_outdated i) st (state_of tag past.runs) ask ok state k.1, moved_past.runs); asked = (cond_after, moved_past.asked) }
      by Unheard k = record { runs = (state_later cur In Fresh Empty st (serve race.select st ask).0 later (race.settings i) (state_of tag past.runs) (laws.runs i) state, moved_past.runs); asked = (cond_after, moved_past.asked) }

  pub no_instance : (s : Settings D Q) (h : How) (tag : ℕ) (ask : Request D Q) → MayInstance s h None tag ask → ⊥
  no_instance s Heard tag ask k = k
  no_instance s Unheard tag ask k = k
  no_instance s Late tag ask k = k

  pub no_client : (h : How) (tag : ℕ) (ask : Request D Q) → MayClient race.clients h None tag ask → ⊥
  no_client Heard tag ask x = x
  no_client Unheard tag ask x = x
  no_client Late tag ask x = x

  pub client_asks : (how : How) (caller : Caller C) (tag : ℕ) (ask : Request D Q) → MayClient race.clients how (Some caller) tag ask → race.clients.asks caller.script ≡ Some ask
  client_asks Late caller tag ask m = absurd m
  client_asks Heard caller tag ask m = uncut_asks race.clients caller.cut caller.script ask m.0
  client_asks Unheard caller tag ask m = uncut_asks race.clients caller.cut caller.script ask m.0

  instance_kept : (t : Trace D Q C) (i : ℕ) (o : Option (Past D Q)) (how : How) (tag : ℕ) (ask : Request D Q) → TraceOk t → nth t.pasts i ≡ o → MayInstance (race.settings i) how o tag ask
      → TraceOk (record { store = (serve race.select t.store ask).0; pasts = pasts_after (race.settings i) t.pasts i o how tag ask (serve race.select t.store ask).1; callers = t.callers })
  instance_kept t i None how tag ask a e m = absurd (no_instance (race.settings i) how tag ask m)
  instance_kept t i (Some past) how tag ask a e m =
      let own : PastOk t.store i past = place_at (PastOk t.store) t.pasts i past a.pasts e in
      let served : Keeps t.store (serve race.select t.store ask).0 = request_served race cur In Fresh Empty Sound laws t.store (race.settings i) ask a.store (laws.runs i) (made_cond t.store i how past tag ask own m) in
      record {
        store = served.ok;
        pasts = place_with (PastOk (serve race.select t.store ask).0) t.pasts i past (past_after (race.settings i) how past tag ask (serve race.select t.store ask).1)
            (place_more (PastOk t.store) (PastOk (serve race.select t.store ask).0) t.pasts (past_later t.store (serve race.select t.store ask).0 served.later) a.pasts) e
            (past_kept t.store i how past tag ask a.store own m);
        callers = a.callers;
      }

  client_kept : (t : Trace D Q C) (k : ℕ) (o : Option (Caller C)) (how : How) (tag : ℕ) (ask : Request D Q) → TraceOk t → nth t.callers k ≡ o → MayClient race.clients how o tag ask
      → TraceOk (record { store = (serve race.select t.store ask).0; pasts = t.pasts; callers = callers_after race.clients t.callers k o how (serve race.select t.store ask).1 })
  client_kept t k None how tag ask a e m = absurd (no_client how tag ask m)
  client_kept t k (Some caller) how tag ask a e m =
      let sound : Sound caller.script = every_nth (λ (c : Caller C). Sound c.script) t.callers k caller a.callers e in
      let asks : race.clients.asks caller.script ≡ Some ask = client_asks how caller tag ask m in
      let client : AsksOf In Fresh ask = laws.asks caller.script ask sound asks in
      let served : Keeps t.store (serve race.select t.store ask).0 = client_served t.store ask a.store client in
      record {
        store = served.ok;
        pasts = place_more (PastOk t.store) (PastOk (serve race.select t.store ask).0) t.pasts (past_later t.store (serve race.select t.store ask).0 served.later) a.pasts;
        callers = every_with (λ (c : Caller C). Sound c.script) t.callers k (caller_after race.clients how caller (serve race.select t.store ask).1) a.callers (after how sound
            (laws.told caller.script ask (serve race.select t.store ask).1 sound asks (client_shown t.store ask a.store)));
      }
    where
      after : (h : How) → Sound caller.script → Sound (race.clients.told caller.script (serve race.select t.store ask).1) → Sound (caller_after race.clients h caller (serve race.select t.store ask).1).script
      after Heard x y = y
      after Unheard x y = x
      after Late x y = x

  entry_kept : (t : Trace D Q C) (actor : Actor) (how : How) (tag : ℕ) (ask : Request D Q) → TraceOk t → MayMake race t actor how tag ask
      → TraceOk (follow_over race t actor how tag ask (serve race.select t.store ask).1 (serve race.select t.store ask).0)
  entry_kept t (Instance i) how tag ask a m = instance_kept t i (nth t.pasts i) how tag ask a refl m
  entry_kept t (Client k) how tag ask a m = client_kept t k (nth t.callers k) how tag ask a refl m

  pub trace_step : (t : Trace D Q C) (e : Entry D Q) → TraceOk t → MayCome race t e → TraceOk (followed race t e)
  unfolding followed MayCome
  trace_step t e a m = subst (λ reply. TraceOk (follow_over race t e.actor e.how e.tag e.request reply (serve race.select t.store e.request).0)) (sym m.1) (entry_kept t e.actor e.how e.tag e.request a m.0)

  pub trace_run : (t : Trace D Q C) (j : List (Entry D Q)) → TraceOk t → Conforms race t j → TraceOk (all_followed race t j)
  unfolding Conforms all_followed
  trace_run t [] a c = a
  trace_run t (e ∷ j) a c = trace_run (followed race t e) j (trace_step t e a c.0) c.1
