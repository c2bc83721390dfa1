-- A start that nothing stands against goes on, or it is done.
use Rattle.std.proofs.Common.{◌≡◌, ℕ, ◌+◌, ◌≤◌, ◌⊎◌, [], true, false, Option, Some, None, refl, sym, ◌∙◌, ap, subst, arith}
use mathlib.Core.Logic.◌⊎◌.{inl, inr}
use Rattle.base_model.specs.Keyed.{Text, at}
use Rattle.race_model.specs.Stores.{Rows, Table, Index, Store, Request, serve, act_all, acted_answer}
use Rattle.race_model.specs.Stores.Acted.{Now}
use Rattle.race_model.specs.Stores.Request.{Create, Clone, Aliases}
use Rattle.race_model.specs.Machines.{Settings, Cause, End, State, request, moved, from_mark, switch}
use Rattle.race_model.specs.Machines.End.{Fatal, GaveUp}
use Rattle.race_model.specs.Machines.Finish.{Stands, Switch}
use Rattle.race_model.specs.Machines.State.{Init, CreateNewTarget, CheckUnknown, SetSourceBlock, CreateTemp, ReindexOpen, ReindexRead, ReindexBulk, ReindexClose, SetTempBlock, CloneTemp, OutdatedOpen, OutdatedRead, OutdatedBulk, OutdatedClose, MarkReady, MarkReadyConflict, Ended}
use Rattle.race_model.specs.Worlds.{Race}
use Rattle.race_model.specs.Migrated.{IsClean}
use Rattle.race_model.specs.Premises.{NamesApart, RaceLaws, Paged}
use Rattle.race_tables.proofs.Lists.{none_some, some_same}
use Rattle.race_facts.proofs.Facts.{Installed, SourceOf, StoreOk, Later, StateOk}
use Rattle.race_facts.proofs.Switching.{switch_of, install_of, Installing, installing, on_it, switch_now}
use Rattle.race_facts.proofs.Switching.Installing.{First, Repeated, Refuses}
use Rattle.race_bound.proofs.Costing.{Of, Cost, of_later, of_more}
use Rattle.race_claims.specs.Shown.{OwnSource, IsCalm}
use Rattle.race_claims.specs.Unhindered.{LooksAtNames, IsClear, FindsUnknown}
use Rattle.race_claims.proofs.Showing.{cause_shown}
use Rattle.race_claims.proofs.Calm.{calm_ends_well}
use Rattle.race_claims.proofs.Beginning.{installed_there}
use Rattle.race_claims.proofs.Ways.{Way, IsFresh, IsMoving, OnSource, OnFinish, IsMark, Next, nexts}
use Rattle.race_claims.proofs.Ways.Way.{Fresh, Standing, Below}

module _ {D Q C : Type 0} (race : Race D Q C) (cur : Text) (In : Settings D Q → Type 0) (Fresh_docs : Settings D Q → Text → D → Type 0) (Empty : Type 0) (Sound : C → Type 0) (laws : RaceLaws race cur In Fresh_docs Sound)
    (version_in : Text → Option Text) (knows : (u : Settings D Q) → In u → (version : Text) × (version_in u.target ≡ Some version)) (pages : ℕ → Rows D → ℕ) (paged : (j : ℕ) → Paged race.select (race.settings j) (pages j)) (i tag : ℕ) (find : FindsUnknown race.select (race.settings i)) where
  abbrev v : Settings D Q
  v = race.settings i

  abbrev is_in : In v
  is_in = laws.runs i

  abbrev names : NamesApart cur In
  names = laws.names

  abbrev Ok : Store D → Type 0
  Ok st = StoreOk cur In Fresh_docs Empty st

  abbrev At : Store D → State D → Type 0
  At st state = StateOk cur In Fresh_docs Empty v st state

  abbrev OfSource : Store D → Text → ℕ → ℕ → Type 0
  OfSource st n c k = Of race cur In Fresh_docs Empty Sound laws (pages i) v is_in (laws.not_outdated i) (paged i) st n c k

  abbrev CostAt : Store D → ℕ → State D → Type 0
  CostAt st k state = Cost race cur In Fresh_docs Empty Sound laws (pages i) v is_in (laws.not_outdated i) (paged i) st k state

  abbrev Lasts : Store D → Store D → Type 0
  Lasts st st' = Later cur In Fresh_docs Empty st st'

  -- at most c replies, or two more for each page of the way's source
  abbrev pub Bound : Way → Store D → ℕ → ℕ → Type 0
  Bound Fresh st c k = k ≤ c
  Bound Standing st c k = k ≤ c
  Bound (Below s) st c k = (k ≤ c) ⊎ OfSource st s c k

  few : (w : Way) (st : Store D) (c k : ℕ) → k ≤ c → Bound w st c k
  few Fresh st c k le = le
  few Standing st c k le = le
  few (Below s) st c k le = inl le

  source_bound : (w : Way) (st : Store D) (n : Text) (c k : ℕ) → OnSource w n → OfSource st n c k → Bound w st c k
  source_bound Fresh st n c k e o = absurd e
  source_bound Standing st n c k e o = absurd e
  source_bound (Below s) st n c k e o = inr (subst (λ m. OfSource st m c k) e o)

  finish_bound : (w : Way) (st : Store D) (n : Text) (c k : ℕ) → OnFinish w (Switch n) → OfSource st n c k → Bound w st c k
  finish_bound Fresh st n c k e o = absurd e
  finish_bound Standing st n c k e o = absurd e
  finish_bound (Below s) st n c k e o = inr (subst (λ m. OfSource st m c k) e o)

  wider : (st : Store D) (n : Text) (c d k : ℕ) → c ≤ d → OfSource st n c k → OfSource st n d k
  wider st n c d k le o = let f = o.few in record { table = o.table; ground = o.ground; blocked = o.blocked; few = omega arith }

  bound_later : (w : Way) (st st' : Store D) (c k : ℕ) → Lasts st st' → Bound w st c k → Bound w st' c k
  bound_later Fresh st st' c k later b = b
  bound_later Standing st st' c k later b = b
  bound_later (Below s) st st' c k later (inl le) = inl le
  bound_later (Below s) st st' c k later (inr o) = inr (of_later race cur In Fresh_docs Empty Sound laws (pages i) v is_in (laws.not_outdated i) (paged i) st st' later s c k o)

  pub bound_more : (w : Way) (st : Store D) (c k : ℕ) → Bound w st c k → Bound w st (c + 1) (k + 1)
  bound_more Fresh st c k le = omega arith
  bound_more Standing st c k le = omega arith
  bound_more (Below s) st c k (inl le) = inl (omega arith)
  bound_more (Below s) st c k (inr o) = inr (of_more race cur In Fresh_docs Empty Sound laws (pages i) v is_in (laws.not_outdated i) (paged i) st s c (c + 1) k o (omega arith))

  -- how a start of this way stands
  abbrev pub Good : Way → Store D → ℕ → State D → Type 0
  Good w st k MarkReadyConflict = IsMoving w × Installed v st.aliases × Bound w st 13 k
  Good w st k (Ended (End.Done target)) = Bound w st 14 k
  Good w st k (Ended (Fatal cause)) = ⊥
  Good w st k (Ended (GaveUp name faults)) = ⊥
  Good w st k state = Rattle.race_claims.proofs.Ways.On w state

  pub good_later : (w : Way) (st st' : Store D) (k : ℕ) (state : State D) → Lasts st st' → Good w st k state → Good w st' k state
  good_later w st st' k MarkReadyConflict later c = (c.0, later.installed v is_in c.1, bound_later w st st' 13 k later c.2)
  good_later w st st' k (Ended (End.Done target)) later c = bound_later w st st' 14 k later c
  good_later w st st' k (Ended (Fatal cause)) later c = c
  good_later w st st' k (Ended (GaveUp name faults)) later c = c
  good_later w st st' k _ later c = c

  -- what it heard so far, before a further request
  pub running_bound : (w : Way) (st : Store D) (k : ℕ) (state : State D) (ask : Request D Q) → request v state ≡ Some ask → CostAt st k state → Good w st k state → Bound w st 13 k
  unfolding request
  running_bound w st k Init ask e c g = absurd g
  running_bound w st k CreateNewTarget ask e c g = few w st 13 k (omega arith)
  running_bound w st k (CheckUnknown n) ask e c g = few w st 13 k (omega arith)
  running_bound w st k (SetSourceBlock n) ask e c g = few w st 13 k (omega arith)
  running_bound w st k (CreateTemp n) ask e c g = few w st 13 k (omega arith)
  running_bound w st k (ReindexOpen n) ask e c g = few w st 13 k (omega arith)
  running_bound w st k (ReindexRead n p after pass) ask e c g = let f = c.few in source_bound w st n 13 k g (record { table = c.table; ground = c.ground; blocked = c.blocked; few = omega arith })
  running_bound w st k (ReindexBulk n p last pass outputs) ask e c g = let f = c.few in source_bound w st n 13 k g (record { table = c.table; ground = c.ground; blocked = c.blocked; few = omega arith })
  running_bound w st k (ReindexClose n p) ask e c g = source_bound w st n 13 k g (wider st n 6 13 k (omega arith) c)
  running_bound w st k (SetTempBlock n) ask e c g = source_bound w st n 13 k g (wider st n 7 13 k (omega arith) c)
  running_bound w st k (CloneTemp n) ask e c g = source_bound w st n 13 k g (wider st n 8 13 k (omega arith) c)
  running_bound w st k (OutdatedOpen (Stands index)) ask e c g = few w st 13 k (omega arith)
  running_bound w st k (OutdatedOpen (Switch n)) ask e c g = finish_bound w st n 13 k g (wider st n 9 13 k (omega arith) c)
  running_bound w st k (OutdatedRead (Stands index) p after) ask e c g = few w st 13 k (omega arith)
  running_bound w st k (OutdatedRead (Switch n) p after) ask e c g = finish_bound w st n 13 k g (wider st n 10 13 k (omega arith) c)
  running_bound w st k (OutdatedBulk finish p last writes) ask e c g = absurd c
  running_bound w st k (OutdatedClose (Stands index) p) ask e c g = few w st 13 k (omega arith)
  running_bound w st k (OutdatedClose (Switch n) p) ask e c g = finish_bound w st n 13 k g (wider st n 11 13 k (omega arith) c)
  running_bound w st k (MarkReady None) ask e c g = few w st 13 k (omega arith)
  running_bound w st k (MarkReady (Some n)) ask e c g = source_bound w st n 13 k g (wider st n 12 13 k (omega arith) c)
  running_bound w st k MarkReadyConflict ask e c g = g.2
  running_bound w st k (Ended end) ask e c g = absurd (cc)

  mark_bound : (w : Way) (st : Store D) (k : ℕ) (from : Option Text) → CostAt st k (MarkReady from) → Good w st k (MarkReady from) → IsMoving w × Bound w st 12 k
  mark_bound Fresh st k None c g = (tt, c)
  mark_bound Standing st k None c g = absurd g
  mark_bound (Below s) st k None c g = absurd g
  mark_bound Fresh st k (Some n) c g = absurd g
  mark_bound Standing st k (Some n) c g = absurd g
  mark_bound (Below s) st k (Some n) c g = (tt, source_bound (Below s) st n 12 k g c)

  -- the next state stands well, where it isn't a fatal end
  settle : (w : Way) (st st' : Store D) (k : ℕ) (x next : State D) (ask : Request D Q) → Lasts st st' → request v x ≡ Some ask → CostAt st k x → Good w st k x → Next w x next → CostAt st' (k + 1) next
      → ((cause : Cause) → next ≡ Ended (Fatal cause) → ⊥) → (next ≡ MarkReadyConflict → Installed v st.aliases) → Good w st' (k + 1) next
  settle w st st' k x Init ask later e c g n c' fatal conflict = absurd (omega arith)
  settle w st st' k (MarkReady from) MarkReadyConflict ask later e c g n c' fatal conflict =
      let m = mark_bound w st k from c g in
      (m.0, later.installed v is_in (conflict refl), bound_later w st st' 13 (k + 1) later (bound_more w st 12 k m.1))
  settle w st st' k _ MarkReadyConflict ask later e c g n c' fatal conflict = absurd n
  settle w st st' k x (Ended (End.Done target)) ask later e c g n c' fatal conflict = bound_later w st st' 14 (k + 1) later (bound_more w st 13 k (running_bound w st k x ask e c g))
  settle w st st' k x (Ended (Fatal cause)) ask later e c g n c' fatal conflict = fatal cause refl
  settle w st st' k x (Ended (GaveUp name faults)) ask later e c g n c' fatal conflict = absurd n
  settle w st st' k x _ ask later e c g n c' fatal conflict = n

  -- where the current alias may be
  abbrev pub Named : Way → Option Text → Type 0
  Named Fresh o = (o ≡ None) ⊎ (o ≡ Some v.target)
  Named Standing o = Unit {0}
  Named (Below s) o = (o ≡ Some s) ⊎ (o ≡ Some v.target)

  on_target : (w : Way) (o : Option Text) → o ≡ Some v.target → Named w o
  on_target Fresh o e = inr e
  on_target Standing o e = tt
  on_target (Below s) o e = inr e

  abbrev pub WayOk : Way → Type 0
  WayOk Fresh = Unit {0}
  WayOk Standing = Unit {0}
  WayOk (Below s) = (v.is_later s ≡ false) × (v.is_same s ≡ false)

  -- a switch or install that is refused finds the current alias on the target
  mark_installed : (w : Way) (st : Store D) (from : Option Text) → Ok st → At st (MarkReady from) → Good w st 0 (MarkReady from) → Named w (at cur st.aliases) → from_mark v (serve race.select st (Aliases (switch v from))).1 ≡ MarkReadyConflict → Installed v st.aliases
  unfolding serve
  mark_installed Fresh st None a c g named e = subst (λ x. from_mark v (acted_answer st (act_all (Now st) (install_of v x))).1 ≡ MarkReadyConflict → Installed v st.aliases) (sym (names.current v is_in)) (by (installing race cur In Fresh_docs Empty Sound laws st v a is_in c.1)) e
    where
      by : Installing race cur In Fresh_docs Empty Sound laws st v → from_mark v (acted_answer st (act_all (Now st) (install_of v cur))).1 ≡ MarkReadyConflict → Installed v st.aliases
      by (First none nowhere is) f = absurd (let z : Ended (End.Done v.target) ≡ MarkReadyConflict = subst (λ x. from_mark v (acted_answer st x).1 ≡ MarkReadyConflict) is f in cc)
      by (Repeated x there is) f = x
      by (Refuses n there is) f = elim named [ inl none ↦ none_some n (at cur st.aliases) none there | inr on ↦ installed_there race cur In Fresh_docs Empty Sound laws v is_in st a on ]
  mark_installed (Below s) st (Some n) a c g named e = subst (λ x. from_mark v (acted_answer st (act_all (Now st) (switch_of v x n))).1 ≡ MarkReadyConflict → Installed v st.aliases) (sym (names.current v is_in)) by e
    where
      by : from_mark v (acted_answer st (act_all (Now st) (switch_of v cur n))).1 ≡ MarkReadyConflict → Installed v st.aliases
      by f = elim (on_it (at cur st.aliases) n) [
        | inl there ↦ absurd (let z : Ended (End.Done v.target) ≡ MarkReadyConflict = subst (λ x. from_mark v (acted_answer st x).1 ≡ MarkReadyConflict) (switch_now race cur In Fresh_docs Empty Sound laws st v n a is_in c there) f in cc)
        | inr off ↦ elim named [ inl on ↦ absurd (off (on ∙ ap (λ z. Some z) (sym g))) | inr on ↦ installed_there race cur In Fresh_docs Empty Sound laws v is_in st a on ]
      ]
  mark_installed Standing st None a c g named e = absurd g
  mark_installed (Below s) st None a c g named e = absurd g
  mark_installed Fresh st (Some n) a c g named e = absurd g
  mark_installed Standing st (Some n) a c g named e = absurd g

  abbrev pub Clear : Way → Store D → Request D Q → Type 0
  Clear Fresh st ask = Unit {0}
  Clear Standing st ask = Unit {0}
  Clear (Below s) st ask = IsClear v s st ask

  own_source : (w : Way) (st : Store D) (n : Text) (ask : Request D Q) → OnSource w n → Clear w st ask → LooksAtNames ask → OwnSource v st n
  own_source Fresh st n ask e c looks = absurd e
  own_source Standing st n ask e c looks = absurd e
  own_source (Below s) st n ask e c looks = subst (OwnSource v st) (sym e) (c.own_source looks)

  none_unknown : (w : Way) (st : Store D) (n : Text) (ask : Request D Q) → OnSource w n → Clear w st ask → (index : Index D) → at n st.indices ≡ Some index → race.select.rows v.unknown index.table.rows ≡ []
  none_unknown Fresh st n ask e c index f = absurd e
  none_unknown Standing st n ask e c index f = absurd e
  none_unknown (Below s) st n ask e c index f = find index.table.rows (c.good index (subst (λ m. at m st.indices ≡ Some index) e f))

  clean_source : (w : Way) (st : Store D) (n : Text) (F : Table D) (ask : Request D Q) → SourceOf In v st n F → OnSource w n → Clear w st ask → (index : Index D) → at n st.indices ≡ Some index → IsClean v index.table.rows
  clean_source Fresh st n F ask b e c index f = absurd e
  clean_source Standing st n F ask b e c index f = absurd e
  clean_source (Below s) st n F ask b e c index f = c.clean index (subst (λ m. at m st.indices ≡ Some index) e f) (subst (λ (z : Index D). z.blocked ≡ true) (some_same b.blocked.index index (at n st.indices) b.blocked.there f) b.blocked.blocked)

  -- once the version is installed, the current alias is on no version below
  pub named_target : (w : Way) (st : Store D) → Ok st → WayOk w → IsMoving w → Installed v st.aliases → Named w (at cur st.aliases) → (n : Text) → at cur st.aliases ≡ Some n → n ≡ v.target
  named_target Fresh st a ok moving x (inl none) n e = none_some n (at cur st.aliases) none e
  named_target Fresh st a ok moving x (inr on) n e = some_same n v.target (at cur st.aliases) e on
  named_target Standing st a ok moving x named n e = absurd moving
  named_target (Below s) st a ok moving x (inr on) n e = some_same n v.target (at cur st.aliases) e on
  named_target (Below s) st a ok moving x (inl on) n e = elim (a.aliases.rising v is_in x s on) [
    | inl later ↦ absurd (let z : true ≡ false = sym later ∙ ok.0 in cc)
    | inr equal ↦ absurd (let z : true ≡ false = sym equal ∙ ok.1 in cc)
  ]

  calm_at : (w : Way) (st : Store D) (k : ℕ) (x : State D) (ask : Request D Q) → Ok st → At st x → WayOk w → request v x ≡ Some ask → Good w st k x → Named w (at cur st.aliases) → Clear w st ask → IsCalm race.select cur v st x
  unfolding request
  calm_at w st k Init ask a c ok e g named clear = absurd g
  calm_at w st k (CheckUnknown n) ask a c ok e g named clear = none_unknown w st n ask g clear
  calm_at w st k (CreateTemp n) ask a c ok e g named clear = own_source w st n ask g clear (let z : Create v.temp (Some n) ≡ ask = (let y : Some (Create v.temp (Some n)) ≡ Some ask = e in cc) in subst LooksAtNames z tt)
  calm_at w st k (ReindexRead n p after pass) ask a c ok e g named clear = clean_source w st n c.0 ask c.1 g clear
  calm_at w st k (CloneTemp n) ask a c ok e g named clear = own_source w st n ask g clear (let z : Clone v.temp v.target ≡ ask = (let y : Some (Clone v.temp v.target) ≡ Some ask = e in cc) in subst LooksAtNames z tt)
  calm_at w st k MarkReadyConflict ask a c ok e g named clear = named_target w st a ok g.0 g.1 named
  calm_at w st k _ ask a c ok e g named clear = tt

  is_mark_conflict : (w : Way) (st : Store D) (k : ℕ) (x : State D) (ask : Request D Q) → Ok st → At st x → request v x ≡ Some ask → Good w st k x → Named w (at cur st.aliases) → Next w x (moved v x (serve race.select st ask).1) → moved v x (serve race.select st ask).1 ≡ MarkReadyConflict → Installed v st.aliases
  unfolding request moved
  is_mark_conflict w st k (MarkReady from) ask a c e g named n f =
      let z : Aliases (switch v from) ≡ ask = (let y : Some (Aliases (switch v from)) ≡ Some ask = e in cc) in
      mark_installed w st from a c g named (subst (λ q. from_mark v (serve race.select st q).1 ≡ MarkReadyConflict) (sym z) f)
  is_mark_conflict w st k Init ask a c e g named n f = absurd g
  is_mark_conflict w st k (Ended end) ask a c e g named n f = absurd (cc)
  is_mark_conflict w st k x ask a c e g named n f = absurd (subst (Next w x) f n)

  running : (x : State D) (ask : Request D Q) → request v x ≡ Some ask → (end : End) → Ended end ≡ x → ⊥
  unfolding request
  running x ask e end f = let y : request v (Ended end) ≡ Some ask = subst (λ z. request v z ≡ Some ask) (sym f) e in cc

  on_way : (w : Way) (st : Store D) (k : ℕ) (x : State D) (ask : Request D Q) → request v x ≡ Some ask → Good w st k x → Rattle.race_claims.proofs.Ways.On w x
  unfolding request
  on_way w st k MarkReadyConflict ask e g = g.0
  on_way w st k (Ended end) ask e g = absurd (cc)
  on_way w st k x ask e g = g

  -- one of the start's own entries
  pub own_good : (w : Way) (st : Store D) (k : ℕ) (x : State D) (ask : Request D Q) → Ok st → At st x → WayOk w → request v x ≡ Some ask → Good w st k x → Named w (at cur st.aliases) → Clear w st ask → CostAt st k x
      → CostAt (serve race.select st ask).0 (k + 1) (moved v x (serve race.select st ask).1) → Lasts st (serve race.select st ask).0 → Good w (serve race.select st ask).0 (k + 1) (moved v x (serve race.select st ask).1)
  own_good w st k x ask a c ok e g named clear cost cost' later =
      let n : Next w x (moved v x (serve race.select st ask).1) = nexts v w x (serve race.select st ask).1 (on_way w st k x ask e g) (running x ask e) in
      settle w st (serve race.select st ask).0 k x (moved v x (serve race.select st ask).1) ask later e cost g n cost'
      (λ cause f. calm_ends_well race.select cur v st x cause (calm_at w st k x ask a c ok e g named clear) (cause_shown race cur In Fresh_docs Empty Sound laws v is_in (laws.not_outdated i) st x ask cause a c e f))
      (is_mark_conflict w st k x ask a c e g named n)
