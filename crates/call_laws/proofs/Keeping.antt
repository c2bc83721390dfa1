-- Clients of the new version write up-to-date documents, where they were shown such.
use Rattle.std.proofs.Common.{◌≡◌, ℕ, Bool, true, false, not, ◌&&◌, Option, Some, None, List, [], ◌∷◌, refl, subst, arith, if◌then◌else◌, nat_lt}
use Rattle.std.proofs.lemmas.Bool.Decides.{nat_tests}
use Rattle.base_model.specs.Keyed.{Text}
use Rattle.race_model.specs.Stores.{Cell, Write, Request, Reply}
use Rattle.race_model.specs.Stores.Request.{Ping, Get, Search, Bulk}
use Rattle.race_model.specs.Premises.{FreshWrites, FreshFound, AllFreshFound, FreshReply, IsOf}
use Rattle.version_token.specs.declared.Ver.{Ver}
use Rattle.document_model.specs.Documents.{ver_lt, Doc}
use Rattle.document_model.specs.Registries.{Registry, known}
use Rattle.call_model.specs.Words.{Words}
use Rattle.query_model.specs.declared.parts.Target.{Target}
use Rattle.call_model.specs.Calls.{NewObject, Act, Call}
use Rattle.call_model.specs.declared.refuse.Refuse.{Refuse}
use Rattle.call_model.specs.Calls.Act.{Create, Update, Delete, Share}
use Rattle.query_model.specs.Queries.{Query}
use Rattle.call_model.specs.Acts.{latest_of, is_seen, Deed, judge, created, overwritten, updated, act_on, on_row, token_is, is_wide, spaces_left, taken_away, added, or_no_space, target_of}
use Rattle.call_model.specs.Acts.Deed.{Deny, Make, Remake, Drop}
use Rattle.call_model.specs.Steps.{Turn, Work, alias_target, work_of}
use Rattle.call_model.specs.Steps.Turn.{Denied, Goes}
use Rattle.call_model.specs.Steps.Work.{Refusing, Writing, Looking, Searching, Following}
use Rattle.call_model.specs.Plans.{Next, Ready, ready_over, cell_of, readied, raws_of, writes_of, all_blind, writing_first, sent, after_read, writing_then, looked_raws, look_first, follow_target, follow_then, first_of_work, then_of_work}
use Rattle.call_model.specs.Plans.Next.{Answers, Asks}
use Rattle.call_model.specs.Scripts.{Script, first, next, asked, asks_over, moved_on, told_over, clients}
use Rattle.call_model.specs.Upgrades.{up_to_date, is_fresh}
use Rattle.call_laws.specs.Meanings.{HeardFresh, AsksOnly, WritesFresh}

lt_self : (n : ℕ) → nat_lt n n ≡ false
lt_self n = grind (arith, nat_tests)

ver_lt_self : (v : Ver) → ver_lt v v ≡ false
unfolding ver_lt
ver_lt_self v = rw (lt_self v.major, lt_self v.minor, lt_self v.patch) refl

pub up_to_date_self : (o : Option Ver) → up_to_date o o ≡ true
up_to_date_self None = refl
up_to_date_self (Some v) = rw (ver_lt_self v) refl

module _ {A O F : Type 0} (w : Words A O F) (reg : Registry O) where
  abbrev pub Fresh : Text → Doc A → Type 0
  Fresh raw doc = is_fresh reg doc ≡ true

  abbrev FreshRow : Option (Cell (Doc A)) → Type 0
  FreshRow None = Unit {0}
  FreshRow (Some c) = is_fresh reg c.doc ≡ true

  abbrev FreshDeed : Deed A → Type 0
  FreshDeed (Make doc) = is_fresh reg doc ≡ true
  FreshDeed (Remake seen doc) = is_fresh reg doc ≡ true
  FreshDeed _ = Unit {0}

  created_fresh : (space : Text) (o : NewObject A) (time : Option Text) → is_fresh reg (created w reg space o time) ≡ true
  unfolding is_fresh
  created_fresh space o time = up_to_date_self (latest_of (known reg o.type_name))

  fresh_if : (b : Bool) (x y : Deed A) → FreshDeed x → FreshDeed y → FreshDeed (if b then x else y)
  fresh_if true x y p q = p
  fresh_if false x y p q = q

  fresh_spaces : (seq : ℕ) (doc : Doc A) (time : Option Text) (spaces : List Text) → is_fresh reg doc ≡ true → FreshDeed (spaces_left seq doc time spaces)
  unfolding is_fresh
  fresh_spaces seq doc time [] f = tt
  fresh_spaces seq doc time (s ∷ spaces) f = f

  fresh_act : (act : Act A) (seq : ℕ) (doc : Doc A) → is_fresh reg doc ≡ true → FreshDeed (act_on w act seq doc)
  unfolding is_fresh
  fresh_act (Create o overwrite time) seq doc f = tt
  fresh_act (Update ch time) seq doc f = fresh_if (token_is w ch.token seq) (Remake seq (updated w ch time doc)) (Deny Refuse.Conflict) f tt
  fresh_act (Delete t force) seq doc f = fresh_if (is_wide doc.namespaces && not force) (Deny Refuse.NeedsForce) (Drop seq) tt tt
  fresh_act (Share t add remove time) seq doc f = fresh_spaces seq doc time (taken_away remove (added add (or_no_space doc.namespaces))) f

  fresh_row : (space : Text) (act : Act A) (o : Option (Cell (Doc A))) → FreshRow o → FreshDeed (on_row w reg space act o)
  fresh_row space act None f = tt
  fresh_row space act (Some c) f = fresh_if (is_seen reg space (target_of act).type_name c.doc) (act_on w act c.seq c.doc) (Deny Refuse.NotFound) (fresh_act act c.seq c.doc f) tt

  fresh_judge : (space : Text) (act : Act A) (o : Option (Cell (Doc A))) → FreshRow o → FreshDeed (judge w reg space act o)
  unfolding judge is_fresh
  fresh_judge space (Create o false time) row f = created_fresh space o time
  fresh_judge space (Create o true time) None f = created_fresh space o time
  fresh_judge space (Create o true time) (Some c) f =
      let new : Doc A = created w reg space o time in
      fresh_if (is_seen reg space new.type_name c.doc) (Remake c.seq (overwritten new c.doc)) (Deny Refuse.Conflict) (created_fresh space o time) tt
  fresh_judge space (Update ch time) row f = fresh_row space (Update ch time) row f
  fresh_judge space (Delete t force) row f = fresh_row space (Delete t force) row f
  fresh_judge space (Share t add remove time) row f = fresh_row space (Share t add remove time) row f

  fresh_ready : (raw : Text) (act : Act A) (deed : Deed A) (rs : List (Ready A)) → FreshDeed deed → FreshWrites Fresh (writes_of rs) → FreshWrites Fresh (writes_of (ready_over raw act deed ∷ rs))
  unfolding FreshWrites
  fresh_ready raw act (Deny r) rs d f = f
  fresh_ready raw act (Make doc) rs d f = (d, f)
  fresh_ready raw act (Remake seen doc) rs d f = (d, f)
  fresh_ready raw act (Drop seen) rs d f = (tt, f)

  fresh_cell : (row : Option (Text × Cell (Doc A))) → FreshFound Fresh row → FreshRow (cell_of row)
  fresh_cell None f = tt
  fresh_cell (Some r) f = f

  fresh_readied : (space : Text) (ts : List (Turn A)) (rows : List (Option (Text × Cell (Doc A)))) → AllFreshFound Fresh rows → FreshWrites Fresh (writes_of (readied w reg space ts rows))
  unfolding readied AllFreshFound FreshWrites
  fresh_readied space [] rows f = tt
  fresh_readied space (Denied r ∷ ts) rows f = fresh_readied space ts rows f
  fresh_readied space (Goes raw act ∷ ts) [] f = fresh_ready raw act (judge w reg space act None) (readied w reg space ts []) (fresh_judge space act None tt) (fresh_readied space ts [] f)
  fresh_readied space (Goes raw act ∷ ts) (row ∷ rows) f =
      fresh_ready raw act (judge w reg space act (cell_of row)) (readied w reg space ts rows) (fresh_judge space act (cell_of row) (fresh_cell row f.0)) (fresh_readied space ts rows f.1)

  -- requests of one alias
  abbrev pub OnAlias : Request (Doc A) (Query F) → Type 0
  OnAlias Ping = Unit {0}
  OnAlias (Get n raws) = n ≡ w.version_alias reg.version
  OnAlias (Search n query) = n ≡ w.version_alias reg.version
  OnAlias (Bulk n writes) = n ≡ w.version_alias reg.version
  OnAlias _ = ⊥

  abbrev pub FreshAsk : Request (Doc A) (Query F) → Type 0
  FreshAsk (Bulk n writes) = FreshWrites Fresh writes
  FreshAsk _ = Unit {0}

  -- what is known of a request
  pub record Mine (ask : Request (Doc A) (Query F)) : Type 0 where
    pub on_alias : OnAlias ask
    pub fresh : FreshAsk ask

  first_writing : (space : Text) (blind : Bool) (raws : List Text) (ts : List (Turn A)) → Mine (writing_first w reg space blind raws ts)
  unfolding AllFreshFound
  first_writing space blind [] ts = record { on_alias = tt; fresh = tt }
  first_writing space true (raw ∷ raws) ts = record { on_alias = refl; fresh = fresh_readied space ts [] tt }
  first_writing space false (raw ∷ raws) ts = record { on_alias = refl; fresh = tt }

  first_looking : (raws : List Text) → Mine (look_first w reg raws)
  first_looking [] = record { on_alias = tt; fresh = tt }
  first_looking (raw ∷ raws) = record { on_alias = refl; fresh = tt }

  pub first_mine : (work : Work A) → Mine (first_of_work w reg work)
  first_mine (Refusing r) = record { on_alias = tt; fresh = tt }
  first_mine (Writing alone space ts) = first_writing space (all_blind ts) (raws_of ts) ts
  first_mine (Looking alone space ls) = first_looking (looked_raws reg space ls)
  first_mine (Searching space f) = record { on_alias = refl; fresh = tt }
  first_mine (Following space q) = record { on_alias = refl; fresh = tt }

  -- what the first reply leads to: a request of one's own, after a read
  abbrev pub NextMine : Request (Doc A) (Query F) → Reply (Doc A) → Next A F → Type 0
  NextMine ask reply (Answers a) = Unit {0}
  NextMine ask reply (Asks second) = IsOf (w.version_alias reg.version) ask × OnAlias second × (FreshReply Fresh reply → FreshAsk second)

  second_sent : (alone : Bool) (ask : Request (Doc A) (Query F)) (reply : Reply (Doc A)) (rs : List (Ready A)) (ws : List (Write (Doc A))) → writes_of rs ≡ ws → IsOf (w.version_alias reg.version) ask → (FreshReply Fresh reply → FreshWrites Fresh (writes_of rs))
      → NextMine ask reply (sent w reg alone ws rs)
  second_sent alone ask reply rs [] e i f = tt
  second_sent alone ask reply rs (x ∷ ws) e i f = (i, refl, λ r. subst (FreshWrites Fresh) e (f r))

  second_read : (alone : Bool) (space : Text) (ts : List (Turn A)) (ask : Request (Doc A) (Query F)) (reply : Reply (Doc A)) → IsOf (w.version_alias reg.version) ask → NextMine ask reply (after_read w reg alone space ts reply)
  second_read alone space ts ask (Reply.Found rows) i = second_sent alone ask (Reply.Found rows) (readied w reg space ts rows) (writes_of (readied w reg space ts rows)) refl i (λ f. fresh_readied space ts rows f)
  second_read alone space ts ask Reply.Done i = tt
  second_read alone space ts ask (Reply.Seen x y) i = tt
  second_read alone space ts ask (Reply.Pit p) i = tt
  second_read alone space ts ask (Reply.Selected n rows) i = tt
  second_read alone space ts ask (Reply.Items is) i = tt
  second_read alone space ts ask (Reply.Refused r) i = tt

  second_writing : (alone : Bool) (space : Text) (blind : Bool) (raws : List Text) (ts : List (Turn A)) (reply : Reply (Doc A)) → NextMine (writing_first w reg space blind raws ts) reply (writing_then w reg alone space blind raws ts reply)
  second_writing alone space blind [] ts reply = tt
  second_writing alone space true (raw ∷ raws) ts reply = tt
  second_writing alone space false (raw ∷ raws) ts reply = second_read alone space ts (Get (w.version_alias reg.version) (raw ∷ raws)) reply refl

  second_target : (space : Text) (q : Target) (ask : Request (Doc A) (Query F)) (reply : Reply (Doc A)) (goal : Option Target) (exact : Option (Cell (Doc A))) → IsOf (w.version_alias reg.version) ask → NextMine ask reply (follow_target w reg space q goal exact)
  second_target space q ask reply None exact i = tt
  second_target space q ask reply (Some a) exact i = (i, refl, λ f. tt)

  second_following : (space : Text) (q : Target) (ask : Request (Doc A) (Query F)) (reply : Reply (Doc A)) → IsOf (w.version_alias reg.version) ask → NextMine ask reply (follow_then w reg space q reply)
  second_following space q ask (Reply.Found []) i = tt
  second_following space q ask (Reply.Found (x ∷ [])) i = tt
  second_following space q ask (Reply.Found (exact ∷ link ∷ [])) i = second_target space q ask (Reply.Found (exact ∷ link ∷ [])) (alias_target w (cell_of link)) (cell_of exact) i
  second_following space q ask (Reply.Found (x ∷ y ∷ z ∷ zs)) i = tt
  second_following space q ask Reply.Done i = tt
  second_following space q ask (Reply.Seen x y) i = tt
  second_following space q ask (Reply.Pit p) i = tt
  second_following space q ask (Reply.Selected n rows) i = tt
  second_following space q ask (Reply.Items is) i = tt
  second_following space q ask (Reply.Refused r) i = tt

  pub second_mine : (work : Work A) (reply : Reply (Doc A)) → NextMine (first_of_work w reg work) reply (then_of_work w reg work reply)
  second_mine (Refusing r) reply = tt
  second_mine (Writing alone space ts) reply = second_writing alone space (all_blind ts) (raws_of ts) ts reply
  second_mine (Looking alone space ls) reply = tt
  second_mine (Searching space f) reply = tt
  second_mine (Following space q) reply = second_following space q (first_of_work w reg (Following space q)) reply refl

  abbrev pub FreshHeard : Option (Reply (Doc A)) → Type 0
  FreshHeard None = Unit {0}
  FreshHeard (Some reply) = FreshReply Fresh reply

  -- what a client asks
  pub script_on_alias : (calls : List (Call A)) (heard : Option (Reply (Doc A))) (ask : Request (Doc A) (Query F)) → asks_over w reg calls heard ≡ Some ask → OnAlias ask
  script_on_alias [] heard ask e = absurd (cc)
  script_on_alias (call ∷ calls) None ask e = let is : first w reg call ≡ ask = cc in subst OnAlias is (first_mine (work_of w reg call)).on_alias
  script_on_alias (call ∷ calls) (Some reply) ask e = by (next w reg call reply) e (second_mine (work_of w reg call) reply)
    where
      by : (n : Next A F) → asked n ≡ Some ask → NextMine (first w reg call) reply n → OnAlias ask
      by (Answers a) e m = absurd (cc)
      by (Asks second) e m = let is : second ≡ ask = cc in subst OnAlias is m.1

  pub script_fresh : (calls : List (Call A)) (heard : Option (Reply (Doc A))) (ask : Request (Doc A) (Query F)) → FreshHeard heard → asks_over w reg calls heard ≡ Some ask → FreshAsk ask
  script_fresh [] heard ask h e = absurd (cc)
  script_fresh (call ∷ calls) None ask h e = let is : first w reg call ≡ ask = cc in subst FreshAsk is (first_mine (work_of w reg call)).fresh
  script_fresh (call ∷ calls) (Some reply) ask h e = by (next w reg call reply) e (second_mine (work_of w reg call) reply)
    where
      by : (n : Next A F) → asked n ≡ Some ask → NextMine (first w reg call) reply n → FreshAsk ask
      by (Answers a) e m = absurd (cc)
      by (Asks second) e m = let is : second ≡ ask = cc in subst FreshAsk is (m.2 h)

  -- what a client keeps
  pub script_keeps : (calls : List (Call A)) (heard : Option (Reply (Doc A))) (number : ℕ) (ask : Request (Doc A) (Query F)) (reply : Reply (Doc A)) → asks_over w reg calls heard ≡ Some ask → (IsOf (w.version_alias reg.version) ask → FreshReply Fresh reply)
      → FreshHeard (told_over w (record { registry = reg; calls = calls; heard = heard; number = number }) calls heard reply).heard
  script_keeps [] heard number ask reply e f = absurd (cc)
  script_keeps (call ∷ calls) (Some r) number ask reply e f = tt
  script_keeps (call ∷ calls) None number ask reply e f = by (next w reg call reply) (second_mine (work_of w reg call) reply)
    where
      c : Script A O
      c = record { registry = reg; calls = call ∷ calls; heard = None; number = number }

      by : (n : Next A F) → NextMine (first w reg call) reply n → FreshHeard (moved_on c calls reply n).heard
      by (Answers a) m = tt
      by (Asks second) m = let is : first w reg call ≡ ask = cc in f (subst (IsOf (w.version_alias reg.version)) is m.0)

  pub script_registry : (c : Script A O) (calls : List (Call A)) (heard : Option (Reply (Doc A))) (reply : Reply (Doc A)) → (told_over w c calls heard reply).registry ≡ c.registry
  script_registry c [] heard reply = refl
  script_registry c (call ∷ calls) (Some r) reply = refl
  script_registry c (call ∷ calls) None reply = by (next w c.registry call reply)
    where
      by : (n : Next A F) → (moved_on c calls reply n).registry ≡ c.registry
      by (Answers a) = refl
      by (Asks second) = refl

-- the laws of clients, in the words of the laws
module _ {A O F : Type 0} (w : Words A O F) (c : Script A O) (ask : Request (Doc A) (Query F)) where
  heard_in : (h : Option (Reply (Doc A))) → HeardFresh c.registry h → FreshHeard w c.registry h
  heard_in None f = tt
  heard_in (Some r) f = f

  heard_out : (h : Option (Reply (Doc A))) → FreshHeard w c.registry h → HeardFresh c.registry h
  heard_out None f = tt
  heard_out (Some r) f = f

  only_of : (x : Request (Doc A) (Query F)) → OnAlias w c.registry x → AsksOnly (w.version_alias c.registry.version) x
  only_of Ping o = tt
  only_of (Get n raws) o = o
  only_of (Search n query) o = o
  only_of (Bulk n writes) o = o
  only_of Request.State o = absurd o
  only_of (Request.Create n from) o = absurd o
  only_of (Request.Block n) o = absurd o
  only_of (Request.Clone n m) o = absurd o
  only_of (Request.OpenPit n) o = absurd o
  only_of (Request.ReadPit p q) o = absurd o
  only_of (Request.ClosePit p) o = absurd o
  only_of (Request.Aliases actions) o = absurd o

  pub script_asks_only : (clients w).asks c ≡ Some ask → AsksOnly (w.version_alias c.registry.version) ask
  script_asks_only e = only_of ask (script_on_alias w c.registry c.calls c.heard ask e)

  fresh_of : (x : Request (Doc A) (Query F)) → FreshAsk w c.registry x → WritesFresh {F = F} c.registry x
  fresh_of (Bulk n writes) f = f
  fresh_of Ping f = tt
  fresh_of (Get n raws) f = tt
  fresh_of (Search n query) f = tt
  fresh_of Request.State f = tt
  fresh_of (Request.Create n from) f = tt
  fresh_of (Request.Block n) f = tt
  fresh_of (Request.Clone n m) f = tt
  fresh_of (Request.OpenPit n) f = tt
  fresh_of (Request.ReadPit p q) f = tt
  fresh_of (Request.ClosePit p) f = tt
  fresh_of (Request.Aliases actions) f = tt

  pub script_writes_fresh : (clients w).asks c ≡ Some ask → HeardFresh c.registry c.heard → WritesFresh {F = F} c.registry ask
  script_writes_fresh e h = fresh_of ask (script_fresh w c.registry c.calls c.heard ask (heard_in c.heard h) e)

  pub script_hears : (reply : Reply (Doc A)) → (clients w).asks c ≡ Some ask → HeardFresh c.registry (Some reply) → HeardFresh c.registry ((clients w).told c reply).heard
  script_hears reply e h = heard_out ((clients w).told c reply).heard (script_keeps w c.registry c.calls c.heard c.number ask reply e (λ i. h))
