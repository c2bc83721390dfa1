-- Where every instance is of one version, a start fails by documents alone.
use Rattle.std.proofs.Common.{◌≡◌, ℕ, ◌⊎◌, List, [], ◌∷◌, true, false, Option, Some, None, refl, sym, ◌∙◌, ap, subst}
use mathlib.Core.Logic.◌⊎◌.{inl, inr}
use Rattle.base_model.specs.Keyed.{Text, at}
use Rattle.race_model.specs.Stores.{Index, Store, Request, serve, seen}
use Rattle.race_model.specs.Stores.Reply.{Seen}
use Rattle.race_model.specs.Machines.{Settings, Cause, State, Machine, request, moved, from_state}
use Rattle.race_model.specs.Machines.Cause.{UnknownObjects, CorruptObjects, NewerObjects, OutdatedId, Collision, NewerIndex, VersionAliasMissing, LegacyIndex, OtherVersion, Leftover}
use Rattle.race_model.specs.Machines.End.{Fatal, GaveUp}
use Rattle.race_model.specs.Machines.Finish.{Stands}
use Rattle.race_model.specs.Machines.State.{Init, CheckUnknown, CreateTemp, ReindexRead, CloneTemp, OutdatedOpen, MarkReadyConflict, Ended}
use Rattle.race_model.specs.Worlds.{Race, Actor, How, Entry, Caller, Node, World, nth}
use Rattle.race_model.specs.Worlds.Actor.{Instance, Client}
use Rattle.race_model.specs.Worlds.How.{Heard}
use Rattle.race_model.specs.Journals.{Past, Trace, state_of, MayInstance, MayClient, MayMake, MayCome, Conforms, follow_over, followed, all_followed}
use Rattle.race_model.specs.Sorted.{Each}
use Rattle.race_model.specs.Premises.{RaceLaws}
use Rattle.race_tables.proofs.Lists.{none_some, some_same, every_nth}
use Rattle.race_tables.proofs.Outputs.{MayFail}
use Rattle.race_tables.proofs.Batches.{batch_bad}
use Rattle.race_follow.proofs.Following.{places_at, NodeAgrees, Agrees}
use Rattle.race_facts.proofs.Facts.{Current, StoreOk, Cond, StateOk}
use Rattle.race_facts.proofs.Facts.Current.{Nowhere, On}
use Rattle.race_facts.proofs.Racing.{every_state, TraceFacts, PastFacts, place_at, made_cond, no_instance, no_client, client_asks, trace_step}
use Rattle.race_claims.specs.Shown.{LeftBy, IsShown}
use Rattle.race_claims.specs.OneVersion.{IsByDocuments}
use Rattle.race_claims.proofs.Showing.{cause_shown}
use Rattle.race_claims.proofs.Starting.{Went, went_over}
use Rattle.race_claims.proofs.Starting.Went.{Moves, Stays}
use Rattle.race_claims.proofs.Beginning.{standing_first}
use Rattle.race_claims.proofs.OneVersion.{IsFirst, OneOk, ground_first, one_served, one_client}

may_by : (c : Cause) → MayFail c → IsByDocuments c
may_by (UnknownObjects raws) m = m
may_by (CorruptObjects raws) m = m
may_by (NewerObjects raws) m = m
may_by (Collision first second raw) m = m
may_by (OutdatedId raws) m = absurd m
may_by (NewerIndex n) m = absurd m
may_by (VersionAliasMissing n) m = absurd m
may_by (LegacyIndex n) m = absurd m
may_by (Cause.NameTaken n) m = absurd m
may_by (OtherVersion n) m = absurd m
may_by (Leftover n its from) m = absurd m

module _ {D Q C : Type 0} (race : Race D Q C) (cur : Text) (In : Settings D Q → Type 0) (Fresh : Settings D Q → Text → D → Type 0) (Empty : Type 0) (Sound : C → Type 0) (laws : RaceLaws race cur In Fresh Sound) (v : Settings D Q) (all : (i : ℕ) → race.settings i ≡ v)
    (Firsts : Settings D Q → Type 0) (below : (u : Settings D Q) → Firsts u → (v.is_later u.target ≡ false) × (v.is_same u.target ≡ false)) (one : (a b : Settings D Q) → Firsts a → Firsts b → a ≡ b) (none : Empty → (u : Settings D Q) → Firsts u → ⊥) where
  -- the documents of an opening generation bring it
  abbrev pub Fails : Cause → Type 0
  Fails cause = IsByDocuments cause × (u : Settings D Q) × Firsts u

  abbrev is_in : In v
  is_in = subst In (all 0) (laws.runs 0)

  abbrev calm : (after : Option Text) (rows : List (Text × Rattle.race_model.specs.Stores.Cell D)) → Each (Fresh v) rows → race.select.rows (v.outdated after) rows ≡ []
  calm = subst (λ s. (after : Option Text) (rows : List (Text × Rattle.race_model.specs.Stores.Cell D)) → Each (Fresh s) rows → race.select.rows (s.outdated after) rows ≡ []) (all 0) (laws.not_outdated 0)

  abbrev Ok : Store D → Type 0
  Ok st = StoreOk cur In Fresh Empty st

  abbrev At : Store D → State D → Type 0
  At st state = StateOk cur In Fresh Empty v st state

  abbrev One : Store D → Type 0
  One st = OneOk race cur In Fresh Empty Sound laws v is_in Firsts st

  abbrev FirstIs : Text → Type 0
  FirstIs n = IsFirst race cur In Fresh Empty Sound laws v is_in Firsts n

  current_known : (st : Store D) (n : Text) → Ok st → One st → at cur st.aliases ≡ Some n → (n ≡ v.target) ⊎ FirstIs n
  current_known st n a k e = by a.aliases.current
    where
      by : Current cur In Fresh Empty st.aliases → (n ≡ v.target) ⊎ FirstIs n
      by (Nowhere f x nowhere) = none_some n (at cur st.aliases) f e
      by (On u j f x) =
          let is : n ≡ u.target = some_same n u.target (at cur st.aliases) e f in
          elim (k.installed u j x) [ inl s ↦ inl (is ∙ ap (λ (z : Settings D Q). z.target) s) | inr y ↦ inr (u, y, is) ]

  -- an index of this version's names has the right source
  left_by : (st : Store D) (n : Text) (its : Option Text) (source : Text) → (n ≡ v.temp) ⊎ (n ≡ v.target) → One st → FirstIs source → LeftBy st n its source → ⊥
  left_by st n its source kind k f l = by kind
    where
      wrong : Empty ⊎ ((m : Text) × (l.index.source ≡ Some m) × FirstIs m) → ⊥
      wrong (inl e) = none e f.0 f.1
      wrong (inr o) = l.other (sym l.from ∙ o.1 ∙ ap (λ z. Some z) (o.2.2 ∙ ap (λ (z : Settings D Q). z.target) (one o.2.0 f.0 o.2.1 f.1) ∙ sym f.2))

      by : (n ≡ v.temp) ⊎ (n ≡ v.target) → ⊥
      by (inl is) = wrong (k.temp l.index (subst (λ m. at m st.indices ≡ Some l.index) is l.there))
      by (inr is) = wrong (k.target l.index (subst (λ m. at m st.indices ≡ Some l.index) is l.there))

  -- a start that finds the version installed doesn't fail
  stands : (st : Store D) (n : Text) (ask : Request D Q) (cause : Cause) → Ok st → at cur st.aliases ≡ Some n → n ≡ v.target → request v Init ≡ Some ask → moved v Init (serve race.select st ask).1 ≡ Ended (Fatal cause) → ⊥
  unfolding request moved serve
  stands st n ask cause a e is q f =
      let s : Request.State ≡ ask = (let z : Some Request.State ≡ Some ask = q in cc) in
      let g : from_state v (Seen (seen st.indices) st.aliases) ≡ Ended (Fatal cause) = subst (λ x. moved v Init (serve race.select st x).1 ≡ Ended (Fatal cause)) (sym s) f in
      let x : OutdatedOpen (Stands v.target) ≡ Ended (Fatal cause) = sym (standing_first race cur In Fresh Empty Sound laws v is_in st a (e ∙ ap (λ z. Some z) is)) ∙ g in
      cc

  shown_by : (st : Store D) (x : State D) (ask : Request D Q) (cause : Cause) → Ok st → One st → At st x → request v x ≡ Some ask → moved v x (serve race.select st ask).1 ≡ Ended (Fatal cause) → IsShown race.select cur v st x cause → Fails cause
  shown_by st Init ask (NewerIndex n) a k c q f s = elim (current_known st n a k s.0) [
    | inl is ↦ absurd (stands st n ask (NewerIndex n) a s.0 is q f)
    | inr o ↦ absurd (let x : v.is_later n ≡ false = subst (λ m. v.is_later m ≡ false) (sym o.2) (below o.0 o.1).0 in let y : true ≡ false = sym s.1 ∙ x in cc)
  ]
  shown_by st Init ask (Leftover n its source) a k c q f s = elim (current_known st source a k s.0) [
    | inl is ↦ absurd (stands st source ask (Leftover n its source) a s.0 is q f)
    | inr o ↦ absurd (left_by st n its source s.1 k o s.2)
  ]
  shown_by st (CheckUnknown from) ask (UnknownObjects raws) a k c q f s = let o = ground_first race cur In Fresh Empty Sound laws v is_in Firsts st from k c in (tt, o.0, o.1)
  shown_by st (CreateTemp from) ask (Leftover n its source) a k c q f s = absurd (left_by st n its source (inl s.0) k (subst FirstIs (sym s.1) (ground_first race cur In Fresh Empty Sound laws v is_in Firsts st from k c.1.ground)) s.2)
  shown_by st (CloneTemp from) ask (Leftover n its source) a k c q f s = absurd (left_by st n its source (inr s.0) k (subst FirstIs (sym s.1) (ground_first race cur In Fresh Empty Sound laws v is_in Firsts st from k c.1.ground)) s.2)
  shown_by st (ReindexRead from p after pass) ask cause a k c q f s = let o = ground_first race cur In Fresh Empty Sound laws v is_in Firsts st from k c.1.ground in (may_by cause (batch_bad v s.pass s.page cause s.bad), o.0, o.1)
  shown_by st MarkReadyConflict ask (OtherVersion (Some n)) a k c q f s = elim (current_known st n a k s.0) [
    | inl is ↦ absurd (s.1 is)
    | inr o ↦ elim c.2 [
      | inl e ↦ absurd (none e o.0 o.1)
      | inr p ↦ (let m = ground_first race cur In Fresh Empty Sound laws v is_in Firsts st p.0 k p.1 in
          absurd (p.2 (s.0 ∙ ap (λ z. Some z) (o.2 ∙ ap (λ (z : Settings D Q). z.target) (one o.0 m.0 o.1 m.1) ∙ sym m.2))))
    ]
  ]
  shown_by st _ ask _ a k c q f s = absurd s

  pub fails_by : (st : Store D) (x : State D) (ask : Request D Q) (cause : Cause) → Ok st → One st → At st x → request v x ≡ Some ask → moved v x (serve race.select st ask).1 ≡ Ended (Fatal cause) → Fails cause
  fails_by st x ask cause a k c q f = shown_by st x ask cause a k c q f (cause_shown race cur In Fresh Empty Sound laws v is_in calm st x ask cause a c q f)

  -- along a journal
  pub record OneTrace (t : Trace D Q C) : Type 0 where
    pub facts : TraceFacts race cur In Fresh Empty Sound t
    pub store : One t.store
    pub by : (i tag : ℕ) (past : Past D Q) (cause : Cause) → nth t.pasts i ≡ Some past → state_of tag past.runs ≡ Ended (Fatal cause) → Fails cause

  one_entry : (t : Trace D Q C) (actor : Actor) (how : How) (own : ℕ) (ask : Request D Q) → OneTrace t → MayMake race t actor how own ask → One (serve race.select t.store ask).0
  one_entry t (Instance j) how own ask a m = by (nth t.pasts j) refl m
    where
      by : (o : Option (Past D Q)) → nth t.pasts j ≡ o → MayInstance (race.settings j) how o own ask → One (serve race.select t.store ask).0
      by None e x = absurd (no_instance race cur In Fresh Empty Sound laws (race.settings j) how own ask x)
      by (Some past) e x = one_served race cur In Fresh Empty Sound laws v is_in Firsts t.store ask a.facts.store
          (subst (λ s. Cond cur In Fresh Empty s t.store ask) (all j) (made_cond race cur In Fresh Empty Sound laws t.store j how past own ask (place_at (PastFacts race cur In Fresh Empty Sound t.store) t.pasts j past a.facts.pasts e) x)) a.store
  one_entry t (Client k) how own ask a m = by (nth t.callers k) refl m
    where
      by : (o : Option (Caller C)) → nth t.callers k ≡ o → MayClient race.clients how o own ask → One (serve race.select t.store ask).0
      by None e x = absurd (no_client race cur In Fresh Empty Sound laws how own ask x)
      by (Some caller) e x =
          let sound : Sound caller.script = every_nth (λ (c : Caller C). Sound c.script) t.callers k caller a.facts.callers e in
          one_client race cur In Fresh Empty Sound laws v is_in Firsts t.store ask (laws.asks caller.script ask sound (client_asks race cur In Fresh Empty Sound laws how caller own ask x)) a.store

  fails_after : (t : Trace D Q C) (i tag : ℕ) (actor : Actor) (how : How) (own : ℕ) (ask : Request D Q) (next : Past D Q) (cause : Cause) → OneTrace t → MayMake race t actor how own ask
      → nth (follow_over race t actor how own ask (serve race.select t.store ask).1 (serve race.select t.store ask).0).pasts i ≡ Some next → state_of tag next.runs ≡ Ended (Fatal cause) → Fails cause
  fails_after t i tag actor how own ask next cause a m there ends =
      let b = went_over race t i tag actor how own ask (serve race.select t.store ask).1 (serve race.select t.store ask).0 next there in
      by b.past b.there b.went
    where
      by : (past : Past D Q) → nth t.pasts i ≡ Some past → Went race i tag actor how own (serve race.select t.store ask).1 past next → Fails cause
      by past e (Stays other state heard) = a.by i tag past cause e (sym state ∙ ends)
      by past e (Moves x h g state heard) =
          let may : MayInstance (race.settings i) how (nth t.pasts i) own ask = subst (λ y. MayMake race t y how own ask) x m in
          let here : MayInstance (race.settings i) Heard (Some past) own ask = subst (λ o. MayInstance (race.settings i) Heard o own ask) e (subst (λ y. MayInstance (race.settings i) y (nth t.pasts i) own ask) h may) in
          let q : request (race.settings i) (state_of tag past.runs) ≡ Some ask = subst (λ y. request (race.settings i) (state_of y past.runs) ≡ Some ask) g here.1 in
          let c : StateOk cur In Fresh Empty (race.settings i) t.store (state_of tag past.runs) = every_state (StateOk cur In Fresh Empty (race.settings i) t.store) tag past.runs tt (place_at (PastFacts race cur In Fresh Empty Sound t.store) t.pasts i past a.facts.pasts e).runs in
          fails_by t.store (state_of tag past.runs) ask cause a.facts.store a.store (subst (λ s. StateOk cur In Fresh Empty s t.store (state_of tag past.runs)) (all i) c)
          (subst (λ s. request s (state_of tag past.runs) ≡ Some ask) (all i) q) (subst (λ s. moved s (state_of tag past.runs) (serve race.select t.store ask).1 ≡ Ended (Fatal cause)) (all i) (sym state ∙ ends))

  one_step : (t : Trace D Q C) (e : Entry D Q) → OneTrace t → MayCome race t e → OneTrace (followed race t e)
  unfolding followed MayCome
  one_step t e a c =
      let same_trace : follow_over race t e.actor e.how e.tag e.request (serve race.select t.store e.request).1 (serve race.select t.store e.request).0 ≡ followed race t e = ap (λ reply. follow_over race t e.actor e.how e.tag e.request reply (serve race.select t.store e.request).0) (sym c.1) in
      record {
        facts = trace_step race cur In Fresh Empty Sound laws t e a.facts c;
        store = subst (λ (x : Trace D Q C). One x.store) same_trace (subst One (sym (follow_store t e.actor e.how e.tag e.request (serve race.select t.store e.request).1 (serve race.select t.store e.request).0)) (one_entry t e.actor e.how e.tag e.request a c.0));
        by = subst (λ (x : Trace D Q C). (i tag : ℕ) (past : Past D Q) (cause : Cause) → nth x.pasts i ≡ Some past → state_of tag past.runs ≡ Ended (Fatal cause) → Fails cause) same_trace
            (λ i tag past cause there ends. fails_after t i tag e.actor e.how e.tag e.request past cause a c.0 there ends);
      }
    where
      follow_store : (t : Trace D Q C) (actor : Actor) (how : How) (tag : ℕ) (ask : Request D Q) (reply : Rattle.race_model.specs.Stores.Reply D) (st : Store D) → (follow_over race t actor how tag ask reply st).store ≡ st
      follow_store t (Instance i) how tag ask reply st = refl
      follow_store t (Client k) how tag ask reply st = refl

  pub one_run : (t : Trace D Q C) (j : List (Entry D Q)) → OneTrace t → Conforms race t j → OneTrace (all_followed race t j)
  unfolding Conforms all_followed
  one_run t [] a c = a
  one_run t (e ∷ j) a c = one_run (followed race t e) j (one_step t e a c.0) c.1

  -- the ends of a world are told by its entries
  pub one_world : (t : Trace D Q C) (w : World D Q C) → OneTrace t → Agrees race t w → (i : ℕ) (node : Node D Q) (m : Machine D) (cause : Cause) → nth w.nodes i ≡ Some node → node.machine ≡ Some m → m.state ≡ Ended (Fatal cause) → Fails cause
  one_world t w a g i node m cause e f q =
      let told = places_at (NodeAgrees race) t.pasts w.nodes i node g.nodes e in
      elim (told.2.state m f) [
        | inl is ↦ a.by i node.starts told.0 cause told.1 (is ∙ q)
        | inr gave ↦ absurd (let x : Ended (Fatal cause) ≡ Ended (GaveUp gave.0 gave.1) = sym q ∙ gave.2 in cc)
      ]
