-- Bulks are small where their calls have few objects.
use Rattle.std.proofs.Common.{◌≡◌, ◌≤◌, suc, Bool, true, false, Option, Some, None, List, [], ◌∷◌, length, refl, ap, subst, arith, lit≤}
use Rattle.std.specs.Prelude.{⊤, not}
use Rattle.base_model.specs.Keyed.{Text}
use Rattle.race_model.specs.Stores.{Cell, Write, Request, Reply}
use Rattle.race_model.specs.Stores.Reply.{Done, Seen, Pit, Selected, Found, Items}
use Rattle.document_model.specs.Documents.{Doc}
use Rattle.document_model.specs.Registries.{Registry}
use Rattle.query_model.specs.declared.parts.Target.{Target}
use Rattle.so_js.specs.declared.js.Js.{Js}
use Rattle.transform_ops.specs.declared.op.Op.{Op}
use Rattle.store_words.specs.Words.{TextQuery}
use Rattle.call_model.specs.Calls.{NewObject, Act, Call}
use Rattle.call_model.specs.Calls.Call.{Changing, BulkCreating, Getting, BulkGetting, Resolving, Finding}
use Rattle.call_model.specs.declared.refuse.Refuse.{Refuse}
use Rattle.call_model.specs.declared.refuse.Refuse.TheVariants.{BadSpace}
use Rattle.call_model.specs.Acts.{own_words, raw_of, target_of, is_space, bad_space}
use Rattle.call_model.specs.Steps.{Turn, Work, taken_after, turns, looks, creates, unless, unless_words, resolve_words, find_words, alias_target, work_of}
use Rattle.call_model.specs.Steps.Turn.{Denied, Goes}
use Rattle.call_model.specs.Steps.Work.{Refusing, Writing, Looking, Searching, Following}
use Rattle.call_model.specs.Plans.{Ready, Next, cell_of, readied, raws_of, writes_of, all_blind, looked_raws, writing_first, look_first, sent, after_read, writing_then, follow_target, follow_then, first_of_work, then_of_work}
use Rattle.call_model.specs.Plans.Ready.{Settled, Sends}
use Rattle.call_model.specs.Plans.Next.{Answers, Asks}
use Rattle.call_model.specs.Scripts.{first, next}
use Rattle.call_words.specs.Product.{product_words}
use Rattle.object_ops.specs.Stages.{FewObjects, AsksFew}

-- at most as many writes as items
few_writes : (rs : List (Ready Js)) → length (writes_of rs) ≤ length rs
few_writes [] = omega arith
few_writes (Settled r ∷ rs) = let rest : length (writes_of rs) ≤ length rs = few_writes rs in omega arith
few_writes (Sends raw act deed ∷ rs) = let rest : length (writes_of rs) ≤ length rs = few_writes rs in omega arith

as_many_creates : (overwrite : Bool) (time : Option Text) (objects : List (NewObject Js)) → length (creates overwrite time objects) ≡ length objects
as_many_creates overwrite time [] = refl
as_many_creates overwrite time (o ∷ objects) = ap (λ n. suc n) (as_many_creates overwrite time objects)

module _ (reg : Registry Op) where
  as_many_turns : (space : Text) (taken : List Text) (acts : List (Act Js)) → length (turns product_words reg space taken acts) ≡ length acts
  unfolding turns
  as_many_turns space taken [] = refl
  as_many_turns space taken (act ∷ acts) = let rest : length (turns product_words reg space (taken_after (own_words product_words reg act) (raw_of reg space (target_of act)) taken) acts) ≡ length acts = as_many_turns space (taken_after (own_words product_words reg act) (raw_of reg space (target_of act)) taken) acts in omega arith

  as_many_ready : (space : Text) (ts : List (Turn Js)) (rows : List (Option (Text × Cell (Doc Js)))) → length (readied product_words reg space ts rows) ≡ length ts
  unfolding readied
  as_many_ready space [] rows = refl
  as_many_ready space (Denied r ∷ ts) rows = let rest : length (readied product_words reg space ts rows) ≡ length ts = as_many_ready space ts rows in omega arith
  as_many_ready space (Goes raw act ∷ ts) [] = let rest : length (readied product_words reg space ts []) ≡ length ts = as_many_ready space ts [] in omega arith
  as_many_ready space (Goes raw act ∷ ts) (row ∷ rows) = let rest : length (readied product_words reg space ts rows) ≡ length ts = as_many_ready space ts rows in omega arith

  few_to_write : (space : Text) (ts : List (Turn Js)) (rows : List (Option (Text × Cell (Doc Js)))) → length ts ≤ 10000 → length (writes_of (readied product_words reg space ts rows)) ≤ 10000
  few_to_write space ts rows few =
      let items : length (readied product_words reg space ts rows) ≡ length ts = as_many_ready space ts rows in
      let writes : length (writes_of (readied product_words reg space ts rows)) ≤ length (readied product_words reg space ts rows) = few_writes (readied product_words reg space ts rows) in
      omega arith

  -- the request that follows, if any, is small
  abbrev pub NextFew : Next Js Text → Type 0
  NextFew (Answers answer) = ⊤
  NextFew (Asks ask) = AsksFew ask

  few_first : (space : Text) (blind : Bool) (raws : List Text) (ts : List (Turn Js)) → length ts ≤ 10000 → AsksFew (writing_first product_words reg space blind raws ts)
  few_first space true [] ts few = tt
  few_first space false [] ts few = tt
  few_first space true (raw ∷ raws) ts few = few_to_write space ts [] few
  few_first space false (raw ∷ raws) ts few = tt

  few_looked : (raws : List Text) → AsksFew (look_first {A = Js} {F = Text} product_words reg raws)
  few_looked [] = tt
  few_looked (raw ∷ raws) = tt

  few_sent : (alone : Bool) (writes : List (Write (Doc Js))) (rs : List (Ready Js)) → length writes ≤ 10000 → NextFew (sent product_words reg alone writes rs)
  few_sent alone [] rs few = tt
  few_sent alone (x ∷ writes) rs few = few

  few_read : (alone : Bool) (space : Text) (ts : List (Turn Js)) (reply : Reply (Doc Js)) → length ts ≤ 10000 → NextFew (after_read product_words reg alone space ts reply)
  few_read alone space ts (Found rows) few = few_sent alone (writes_of (readied product_words reg space ts rows)) (readied product_words reg space ts rows) (few_to_write space ts rows few)
  few_read alone space ts Done few = tt
  few_read alone space ts (Seen indices aliases) few = tt
  few_read alone space ts (Pit p) few = tt
  few_read alone space ts (Selected total rows) few = tt
  few_read alone space ts (Items items) few = tt
  few_read alone space ts (Reply.Refused why) few = tt

  few_then : (alone : Bool) (space : Text) (blind : Bool) (raws : List Text) (ts : List (Turn Js)) (reply : Reply (Doc Js)) → length ts ≤ 10000 → NextFew (writing_then product_words reg alone space blind raws ts reply)
  few_then alone space true [] ts reply few = tt
  few_then alone space false [] ts reply few = tt
  few_then alone space true (raw ∷ raws) ts reply few = tt
  few_then alone space false (raw ∷ raws) ts reply few = few_read alone space ts reply few

  few_target : (space : Text) (q : Target) (goal : Option Target) (exact : Option (Cell (Doc Js))) → NextFew (follow_target product_words reg space q goal exact)
  few_target space q None exact = tt
  few_target space q (Some goal) exact = tt

  few_follow : (space : Text) (q : Target) (reply : Reply (Doc Js)) → NextFew (follow_then product_words reg space q reply)
  few_follow space q (Found []) = tt
  few_follow space q (Found (a ∷ [])) = tt
  few_follow space q (Found (exact ∷ link ∷ [])) = few_target space q (alias_target product_words (cell_of link)) (cell_of exact)
  few_follow space q (Found (a ∷ b ∷ c ∷ rows)) = tt
  few_follow space q Done = tt
  few_follow space q (Seen indices aliases) = tt
  few_follow space q (Pit p) = tt
  few_follow space q (Selected total rows) = tt
  few_follow space q (Items items) = tt
  few_follow space q (Reply.Refused why) = tt

  -- what a call is of has few items that write
  abbrev pub FewTurns : Work Js → Type 0
  FewTurns (Writing alone space ts) = length ts ≤ 10000
  FewTurns _ = ⊤

  few_asked : (work : Work Js) → FewTurns work → AsksFew (first_of_work product_words reg work)
  few_asked (Refusing r) few = tt
  few_asked (Writing alone space ts) few = few_first space (all_blind ts) (raws_of ts) ts few
  few_asked (Looking alone space ls) few = few_looked (looked_raws reg space ls)
  few_asked (Searching space f) few = tt
  few_asked (Following space q) few = tt

  few_next : (work : Work Js) (reply : Reply (Doc Js)) → FewTurns work → NextFew (then_of_work product_words reg work reply)
  few_next (Refusing r) reply few = tt
  few_next (Writing alone space ts) reply few = few_then alone space (all_blind ts) (raws_of ts) ts reply few
  few_next (Looking alone space ls) reply few = tt
  few_next (Searching space f) reply few = tt
  few_next (Following space q) reply few = few_follow space q reply

  few_unless : (bad : Bool) (r : Refuse) (work : Work Js) → FewTurns work → FewTurns (unless bad r work)
  few_unless true r work few = tt
  few_unless false r work few = few

  few_unless_words : (o : Option Refuse) (work : Work Js) → FewTurns work → FewTurns (unless_words o work)
  few_unless_words (Some r) work few = tt
  few_unless_words None work few = few

  few_acts : (space : Text) (acts : List (Act Js)) → length acts ≤ 10000 → length (turns product_words reg space [] acts) ≤ 10000
  few_acts space acts few = let same : length (turns product_words reg space [] acts) ≡ length acts = as_many_turns space [] acts in omega arith

  few_creates : (overwrite : Bool) (time : Option Text) (objects : List (NewObject Js)) → length objects ≤ 10000 → length (creates overwrite time objects) ≤ 10000
  few_creates overwrite time objects few = let same : length (creates overwrite time objects) ≡ length objects = as_many_creates overwrite time objects in omega arith

  few_turns : (call : Call Js) → FewObjects call → FewTurns (work_of product_words reg call)
  unfolding work_of
  few_turns (Changing space act) few = few_unless (bad_space space act) BadSpace (Writing true space (turns product_words reg space [] (act ∷ []))) (few_acts space (act ∷ []) (lit≤ tt))
  few_turns (BulkCreating space objects overwrite time) few =
      few_unless (not (is_space space)) BadSpace (Writing false space (turns product_words reg space [] (creates overwrite time objects))) (few_acts space (creates overwrite time objects) (few_creates overwrite time objects few))
  few_turns (Getting space t) few = few_unless (not (is_space space)) BadSpace (Looking true space (looks reg (t ∷ []))) tt
  few_turns (BulkGetting space ts) few = few_unless (not (is_space space)) BadSpace (Looking false space (looks reg ts)) tt
  few_turns (Resolving space t) few = few_unless_words (resolve_words reg space t) (Following space t) tt
  few_turns (Finding space f) few = few_unless_words (find_words product_words reg space f) (Searching space f) tt

  pub first_few : (call : Call Js) → FewObjects call → AsksFew (first product_words reg call)
  first_few call few = few_asked (work_of product_words reg call) (few_turns call few)

  pub next_few : (call : Call Js) (reply : Reply (Doc Js)) (ask : Request (Doc Js) TextQuery) → FewObjects call → next product_words reg call reply ≡ Asks ask → AsksFew ask
  next_few call reply ask few is = subst NextFew is (few_next (work_of product_words reg call) reply (few_turns call few))
