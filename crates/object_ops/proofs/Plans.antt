-- The plans by stages are the plans of the definitions.
use Rattle.std.proofs.Common.{◌≡◌, Bool, true, false, Option, Some, None, List, [], ◌∷◌, refl, subst}
use Rattle.base_model.specs.Keyed.{Text}
use Rattle.race_model.specs.Stores.{Cell, Write, Request, Reply}
use Rattle.race_model.specs.Stores.Reply.{Done, Seen, Pit, Selected, Found, Items}
use Rattle.document_model.specs.Documents.{Doc}
use Rattle.document_model.specs.Registries.{Registry}
use Rattle.query_model.specs.declared.parts.Target.{Target}
use Rattle.so_js.specs.declared.js.Js.{Js}
use Rattle.transform_ops.specs.declared.op.Op.{Op}
use Rattle.store_words.specs.Words.{TextQuery}
use Rattle.call_model.specs.Calls.{Find, Answer}
use Rattle.call_model.specs.Steps.{Turn, Look, Work, number_of, alias_target}
use Rattle.call_model.specs.Steps.Work.{Refusing, Writing, Looking, Searching, Following}
use Rattle.call_model.specs.Plans.{Ready, Next, readied, raws_of, bulk_answer, writes_of, all_blind, looked_raws, cell_of, sent, after_read, writing_first, writing_then, writing_last, look_first, look_answer, page_answer, follow_target, follow_then, follow_last, first_of_work, then_of_work, last_of_work}
use Rattle.call_model.specs.Plans.Next.{Answers, Asks}
use Rattle.call_words.specs.Product.{product_words}
use Rattle.object_answers.specs.Following.{followed, followed_over, between}
use Rattle.object_ops.specs.Stages.{Progress, ended_as, sending, begun_writing, begun_looking, begun_work, after_reading, after_following, went_on}

-- it goes on as the definition does: to the same answer, or to the same request and the answers after it
abbrev pub Follows : Registry Op → Next Js Text → (Reply (Doc Js) → Answer Js) → Progress → Type 0
Follows reg (Answers answer) last progress = progress ≡ ended_as answer
Follows reg (Asks ask) last progress = (progress.ask ≡ Some ask) × ((two : Reply (Doc Js)) → went_on reg progress.stage two ≡ ended_as (last two))

module _ (reg : Registry Op) where
  -- the first request
  first_writing : (alone : Bool) (space : Text) (blind : Bool) (raws : List Text) (ts : List (Turn Js)) → (begun_writing reg alone space blind raws ts).ask ≡ Some (writing_first product_words reg space blind raws ts)
  first_writing alone space true [] ts = refl
  first_writing alone space false [] ts = refl
  first_writing alone space true (raw ∷ raws) ts = refl
  first_writing alone space false (raw ∷ raws) ts = refl

  first_looking : (alone : Bool) (space : Text) (raws : List Text) (ls : List Look) → (begun_looking reg alone space raws ls).ask ≡ Some (look_first product_words reg raws)
  first_looking alone space [] ls = refl
  first_looking alone space (raw ∷ raws) ls = refl

  pub first_is : (work : Work Js) → (begun_work reg work).ask ≡ Some (first_of_work product_words reg work)
  first_is (Refusing r) = refl
  first_is (Writing alone space ts) = first_writing alone space (all_blind ts) (raws_of ts) ts
  first_is (Looking alone space ls) = first_looking alone space (looked_raws reg space ls) ls
  first_is (Searching space f) = refl
  first_is (Following space q) = refl

  -- what the first reply leads to
  then_sent : (alone : Bool) (writes : List (Write (Doc Js))) (rs : List (Ready Js)) → Follows reg (sent product_words reg alone writes rs) (λ two. bulk_answer reg alone rs two) (sending reg alone writes rs)
  unfolding went_on
  then_sent alone [] rs = refl
  then_sent alone (x ∷ writes) rs = (refl, λ two. refl)

  then_read : (alone : Bool) (space : Text) (ts : List (Turn Js)) (reply : Reply (Doc Js)) → Follows reg (after_read product_words reg alone space ts reply) (λ two. writing_last product_words reg alone space ts reply two) (after_reading reg alone space ts reply)
  then_read alone space ts (Found rows) = then_sent alone (writes_of (readied product_words reg space ts rows)) (readied product_words reg space ts rows)
  then_read alone space ts Done = refl
  then_read alone space ts (Seen indices aliases) = refl
  then_read alone space ts (Pit p) = refl
  then_read alone space ts (Selected total rows) = refl
  then_read alone space ts (Items items) = refl
  then_read alone space ts (Reply.Refused why) = refl

  then_writing : (alone : Bool) (space : Text) (blind : Bool) (raws : List Text) (ts : List (Turn Js)) (reply : Reply (Doc Js))
      → Follows reg (writing_then product_words reg alone space blind raws ts reply) (λ two. writing_last product_words reg alone space ts reply two) (went_on reg (begun_writing reg alone space blind raws ts).stage reply)
  unfolding went_on
  then_writing alone space true [] ts reply = refl
  then_writing alone space false [] ts reply = refl
  then_writing alone space true (raw ∷ raws) ts reply = refl
  then_writing alone space false (raw ∷ raws) ts reply = then_read alone space ts reply

  then_looking : (alone : Bool) (space : Text) (raws : List Text) (ls : List Look) (reply : Reply (Doc Js)) (last : Reply (Doc Js) → Answer Js)
      → Follows reg (Answers (look_answer reg alone space raws ls reply)) last (went_on reg (begun_looking reg alone space raws ls).stage reply)
  unfolding went_on
  then_looking alone space [] ls reply last = refl
  then_looking alone space (raw ∷ raws) ls reply last = refl

  then_searching : (space : Text) (f : Find) (reply : Reply (Doc Js)) (last : Reply (Doc Js) → Answer Js)
      → Follows reg (Answers (page_answer product_words reg space f reply)) last (went_on reg (begun_work reg (Searching space f)).stage reply)
  unfolding went_on
  then_searching space f (Selected total rows) last = refl
  then_searching space f Done last = refl
  then_searching space f (Seen indices aliases) last = refl
  then_searching space f (Pit p) last = refl
  then_searching space f (Found rows) last = refl
  then_searching space f (Items items) last = refl
  then_searching space f (Reply.Refused why) last = refl

  module _ (space : Text) (q : Target) where
    -- the answer from the second read
    last_following : (exact link : Option (Text × Cell (Doc Js))) (two : Reply (Doc Js))
        → between reg space q (number_of (cell_of link)) two ≡ follow_last product_words reg space q (Found (exact ∷ link ∷ [])) two
    last_following exact link (Found []) = refl
    last_following exact link (Found (a ∷ [])) = refl
    last_following exact link (Found (a ∷ b ∷ [])) = refl
    last_following exact link (Found (a ∷ b ∷ c ∷ [])) = refl
    last_following exact link (Found (a ∷ b ∷ c ∷ d ∷ rows)) = refl
    last_following exact link Done = refl
    last_following exact link (Seen indices aliases) = refl
    last_following exact link (Pit p) = refl
    last_following exact link (Selected total rows) = refl
    last_following exact link (Items items) = refl
    last_following exact link (Reply.Refused why) = refl

    then_followed : (exact link : Option (Text × Cell (Doc Js))) (goal : Option Target)
        → Follows reg (follow_target product_words reg space q goal (cell_of exact)) (λ two. follow_last product_words reg space q (Found (exact ∷ link ∷ [])) two) (after_following reg space q (followed_over reg space q goal (cell_of exact) (cell_of link)))
    unfolding went_on
    then_followed exact link None = refl
    then_followed exact link (Some goal) = (refl, λ two. subst (λ answer. ended_as (between reg space q (number_of (cell_of link)) two) ≡ ended_as answer) (last_following exact link two) refl)

    then_following : (reply : Reply (Doc Js))
        → Follows reg (follow_then product_words reg space q reply) (λ two. follow_last product_words reg space q reply two) (after_following reg space q (followed reg space q reply))
    then_following (Found []) = refl
    then_following (Found (a ∷ [])) = refl
    then_following (Found (exact ∷ link ∷ [])) = then_followed exact link (alias_target product_words (cell_of link))
    then_following (Found (a ∷ b ∷ c ∷ rows)) = refl
    then_following Done = refl
    then_following (Seen indices aliases) = refl
    then_following (Pit p) = refl
    then_following (Selected total rows) = refl
    then_following (Items items) = refl
    then_following (Reply.Refused why) = refl

  pub then_is : (work : Work Js) (reply : Reply (Doc Js))
      → Follows reg (then_of_work product_words reg work reply) (λ two. last_of_work product_words reg work reply two) (went_on reg (begun_work reg work).stage reply)
  unfolding went_on
  then_is (Refusing r) reply = refl
  then_is (Writing alone space ts) reply = then_writing alone space (all_blind ts) (raws_of ts) ts reply
  then_is (Looking alone space ls) reply = then_looking alone space (looked_raws reg space ls) ls reply (λ two. last_of_work product_words reg (Looking alone space ls) reply two)
  then_is (Searching space f) reply = then_searching space f reply (λ two. last_of_work product_words reg (Searching space f) reply two)
  then_is (Following space q) reply = then_following space q reply

-- by what the definition leads to
pub answered_as : (reg : Registry Op) (next : Next Js Text) (last : Reply (Doc Js) → Answer Js) (progress : Progress) (answer : Answer Js) → Follows reg next last progress → next ≡ Answers answer → progress ≡ ended_as answer
answered_as reg next last progress answer follows is = subst (λ n. Follows reg n last progress) is follows

pub asked_as : (reg : Registry Op) (next : Next Js Text) (last : Reply (Doc Js) → Answer Js) (progress : Progress) (ask : Request (Doc Js) TextQuery) → Follows reg next last progress → next ≡ Asks ask → (progress.ask ≡ Some ask) × ((two : Reply (Doc Js)) → went_on reg progress.stage two ≡ ended_as (last two))
asked_as reg next last progress ask follows is = subst (λ n. Follows reg n last progress) is follows
