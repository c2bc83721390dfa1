-- Plans of calls over a link: what their sends need, and what they make.
use Rattle.std.proofs.Common.{◌≡◌, ℕ, ◌≤◌, List, map, length, Option, Some, None, Ok, refl, sym, ◌∙◌, ap, subst, arith}
use Rattle.std.specs.Option.{IsSome}
use Rattle.std.proofs.lemmas.List.{length-map}
use Rattle.std.proofs.lemmas.Option.{none-some, same_Some}
use Rattle.base_model.specs.Keyed.{Text}
use Rattle.document_model.specs.Documents.{Doc}
use Rattle.document_model.specs.Registries.{Registry}
use Rattle.race_model.specs.Stores as stores
use Rattle.so_js.specs.declared.js.Js.{Js}
use Rattle.transform_ops.specs.declared.op.Op.{Op}
use Rattle.store_words.specs.Links.{IsSendable, Makes}
use Rattle.store_words.specs.Words.{TextQuery, request_of, reply_of}
use Rattle.store_words.specs.declared.entry.Entry.{Entry}
use Rattle.store_words.specs.declared.link.FailedSend.{FailedSend}
use Rattle.store_words.specs.declared.link.LinkError.{LinkError}
use Rattle.store_words.specs.declared.reply.Reply.{Reply}
use Rattle.store_words.specs.declared.request.Request.{Request}
use Rattle.store_words.specs.declared.request.Request.TheVariants.{Bulk}
use Rattle.call_model.specs.Calls as calls
use Rattle.call_model.specs.Plans.{Next}
use Rattle.call_model.specs.Plans.Next.{Answers, Asks}
use Rattle.call_model.specs.Scripts.{first, next, last}
use Rattle.call_words.specs.Limits.{HasFewObjects}
use Rattle.call_words.specs.Mapped.{call_of, new_object_of}
use Rattle.call_words.specs.Product.{product_words}
use Rattle.call_words.specs.Told.{answer_with_token}
use Rattle.call_words.specs.declared.answers.Answer.{Answer}
use Rattle.call_words.specs.declared.calls.Call.{Call}
use Rattle.call_words.specs.declared.calls.Call.TheVariants.{BulkCreate}
use Rattle.object_ops.specs.Stages.{Progress, begun, went_on, ended, answer_in, CanGoOn, FewObjects, AsksFew}
use Rattle.object_repo.specs.Performing.{Answered, Performs, Stops}
use Rattle.object_repo.specs.Performing.Performs.{Once, Twice}
use Rattle.object_repo.specs.Performing.Stops.{After, AtLast, AtFirst as StopsAtFirst, AtSecond as StopsAtSecond}
use Rattle.object_repo.specs.Sending.{IsSmall, Sent, Went, Halted, EndsSoon, IsLast, Ended, Ran, Broke}
use Rattle.object_repo.specs.Sending.Halted.{Unanswered, Unread}
use Rattle.object_repo.specs.Sending.Ended.{AtOnce, AfterOne}
use Rattle.object_repo.specs.Sending.Broke.{AtFirst, AtSecond}

few_mapped : {A B : Type 0} (f : A → B) (xs : List A) → length (map f xs) ≤ 10000 → length xs ≤ 65536
few_mapped f xs few = let same : length (map f xs) ≡ length xs = length-map xs f in omega arith

-- a small request can be sent
pub sendable : (request : Request) → AsksFew (request_of request) → IsSendable request
sendable (Bulk index items) few = few_mapped _ items few
sendable _ few = tt

-- a call with few objects, as the definitions have it
pub few_objects : (call : Call) → HasFewObjects call → FewObjects (call_of call)
few_objects (BulkCreate space objects overwrite time) few = let same : length (map new_object_of objects) ≡ length objects = length-map objects new_object_of in omega arith
few_objects _ few = tt

-- the laws of plans
pub record Lawful : Type 0 where
  pub asks_first : (reg : Registry Op) (call : calls.Call Js) → (begun reg call).ask ≡ Some (first product_words reg call)
  pub answers : (reg : Registry Op) (call : calls.Call Js) (reply : stores.Reply (Doc Js)) (answer : calls.Answer Js) →
      next product_words reg call reply ≡ Answers answer → went_on reg (begun reg call).stage reply ≡ ended (answer_with_token answer)
  pub asks : (reg : Registry Op) (call : calls.Call Js) (reply : stores.Reply (Doc Js)) (ask : stores.Request (Doc Js) TextQuery) →
      next product_words reg call reply ≡ Asks ask → (went_on reg (begun reg call).stage reply).ask ≡ Some ask
  pub ends : (reg : Registry Op) (call : calls.Call Js) (one two : stores.Reply (Doc Js)) (ask : stores.Request (Doc Js) TextQuery) →
      next product_words reg call one ≡ Asks ask →
      went_on reg (went_on reg (begun reg call).stage one).stage two ≡ ended (answer_with_token (last product_words reg call one two))
  pub starts : (reg : Registry Op) (call : calls.Call Js) → CanGoOn reg (begun reg call).stage
  pub goes_on : (reg : Registry Op) (call : calls.Call Js) (reply : stores.Reply (Doc Js)) → CanGoOn reg (went_on reg (begun reg call).stage reply).stage
  pub first_is_small : (reg : Registry Op) (call : calls.Call Js) → FewObjects call → AsksFew (first product_words reg call)
  pub next_is_small : (reg : Registry Op) (call : calls.Call Js) (reply : stores.Reply (Doc Js)) (ask : stores.Request (Doc Js) TextQuery) →
      FewObjects call → next product_words reg call reply ≡ Asks ask → AsksFew ask

module _ (law : Lawful) (reg : Registry Op) (call : calls.Call Js) where
  pub first_small : (plan : Progress) → plan ≡ begun reg call → FewObjects call → IsSmall plan.ask
  first_small plan begins few =
      subst (λ (p : Progress). IsSmall p.ask) (sym begins) (subst (λ (ask : Option (stores.Request (Doc Js) TextQuery)). IsSmall ask) (sym (law.asks_first reg call)) (law.first_is_small reg call few))

  pub first_goes_on : (plan : Progress) → plan ≡ begun reg call → CanGoOn reg plan.stage
  first_goes_on plan begins = subst (λ (p : Progress). CanGoOn reg p.stage) (sym begins) (law.starts reg call)

  -- the plan after its first reply, where that was the call's answer
  answered_plan : (after : Progress) (reply : stores.Reply (Doc Js)) (told : calls.Answer Js) → after ≡ went_on reg (begun reg call).stage reply →
      next product_words reg call reply ≡ Answers told → after ≡ ended (answer_with_token told)
  answered_plan after reply told went e = went ∙ law.answers reg call reply told e

  -- its request, where the call has another
  asking_plan : (after : Progress) (reply : stores.Reply (Doc Js)) (ask : stores.Request (Doc Js) TextQuery) → after ≡ went_on reg (begun reg call).stage reply →
      next product_words reg call reply ≡ Asks ask → after.ask ≡ Some ask
  asking_plan after reply ask went e = ap (λ (p : Progress). p.ask) went ∙ law.asks reg call reply ask e

  -- its answer after another reply
  last_plan : (after : Progress) (reply two : stores.Reply (Doc Js)) (ask : stores.Request (Doc Js) TextQuery) → after ≡ went_on reg (begun reg call).stage reply →
      next product_words reg call reply ≡ Asks ask → went_on reg after.stage two ≡ ended (answer_with_token (last product_words reg call reply two))
  last_plan after reply two ask went e = ap (λ (p : Progress). went_on reg p.stage two) went ∙ law.ends reg call reply two ask e

  ends_soon : (after : Progress) (reply : stores.Reply (Doc Js)) → after ≡ went_on reg (begun reg call).stage reply → FewObjects call → IsLast reg after
  ends_soon after reply went few = by (next product_words reg call reply) refl
    where
      by : (n : Next Js Text) → next product_words reg call reply ≡ n → IsLast reg after
      by (Answers told) e = subst (λ (p : Progress). IsLast reg p) (sym (answered_plan after reply told went e)) refl
      by (Asks ask) e =
          let small = law.next_is_small reg call reply ask few e in
          let goes_on = subst (λ (p : Progress). CanGoOn reg p.stage) (sym went) (law.goes_on reg call reply) in
          let ends : (two : stores.Reply (Doc Js)) → IsSome (answer_in (went_on reg after.stage two).stage) = λ two. subst (λ (p : Progress). IsSome (answer_in p.stage)) (sym (last_plan after reply two ask went e)) refl in
          subst (λ (o : Option (stores.Request (Doc Js) TextQuery)). EndsSoon reg after.stage o) (sym (asking_plan after reply ask went e)) (small, goes_on, ends)

  -- any plan after a first reply comes to its answer soon
  pub all_end_soon : (plan : Progress) → plan ≡ begun reg call → FewObjects call → (reply : stores.Reply (Doc Js)) → IsLast reg (went_on reg plan.stage reply)
  all_end_soon plan begins few reply = ends_soon (went_on reg plan.stage reply) reply (ap (λ (p : Progress). went_on reg p.stage reply) begins) few

  -- a plan that asks again is of a call that asks again
  asks_again : (after : Progress) (reply : stores.Reply (Doc Js)) (ask : stores.Request (Doc Js) TextQuery) → after ≡ went_on reg (begun reg call).stage reply →
      after.ask ≡ Some ask → next product_words reg call reply ≡ Asks ask
  asks_again after reply ask went asked = by (next product_words reg call reply) refl
    where
      by : (n : Next Js Text) → next product_words reg call reply ≡ n → next product_words reg call reply ≡ Asks ask
      by (Answers told) e = absurd (none-some ask (sym (ap (λ (p : Progress). p.ask) (answered_plan after reply told went e)) ∙ asked))
      by (Asks other) e = e ∙ ap Asks (same_Some other ask (sym (asking_plan after reply other went e) ∙ asked))

  -- a plan with its answer is of a call with its answer
  record Tells (reply : stores.Reply (Doc Js)) (answer : Answer) : Type 0 where
    told : calls.Answer Js
    decided : next product_words reg call reply ≡ Answers told
    same : answer ≡ answer_with_token told

  tells : (after : Progress) (reply : stores.Reply (Doc Js)) (answer : Answer) → after ≡ went_on reg (begun reg call).stage reply →
      after.ask ≡ None → answer_in after.stage ≡ Some answer → Tells reply answer
  tells after reply answer went none got = by (next product_words reg call reply) refl
    where
      by : (n : Next Js Text) → next product_words reg call reply ≡ n → Tells reply answer
      by (Answers told) e = record {
        told = told;
        decided = e;
        same = same_Some answer (answer_with_token told) (sym got ∙ ap (λ (p : Progress). answer_in p.stage) (answered_plan after reply told went e));
      }
      by (Asks ask) e = absurd (none-some ask (sym none ∙ asking_plan after reply ask went e))

  -- the first request is the call's
  first_asked : (plan : Progress) (ask : stores.Request (Doc Js) TextQuery) → plan ≡ begun reg call → plan.ask ≡ Some ask → ask ≡ first product_words reg call
  first_asked plan ask begins asked = same_Some ask (first product_words reg call) (sym asked ∙ ap (λ (p : Progress). p.ask) begins ∙ law.asks_first reg call)

  module _ (before : Progress) (failed : List FailedSend) (tag : ℕ) (begins : before ≡ begun reg call) where
    abbrev answered : (reply : Reply) (ask : Option (stores.Request (Doc Js) TextQuery)) (old new : List Entry) → Sent ask failed tag (Ok reply) old new → Answered failed tag old new
    answered reply ask old new s = record { request = s.request; reply = reply; made = s.made }

    went_from : (middle : Progress) (old between : List Entry) → (w : Went reg before middle failed tag old between) → middle ≡ went_on reg (begun reg call).stage (reply_of w.reply)
    went_from middle old between w = w.went ∙ ap (λ (p : Progress). went_on reg p.stage (reply_of w.reply)) begins

    ended_performs : (middle after : Progress) (old between new : List Entry) (answer : Answer) → Went reg before middle failed tag old between → Ended reg middle after failed tag between new →
        answer_in after.stage ≡ Some answer → Performs reg call failed tag old new answer
    ended_performs middle after old between new answer w (AtOnce none same unchanged) got =
        let t = tells middle (reply_of w.reply) answer (went_from middle old between w) none (sym (ap (λ (p : Progress). answer_in p.stage) same) ∙ got) in
        Once (record { request = w.sent.request; reply = w.reply; made = subst (λ (es : List Entry). Makes failed tag w.sent.request (Ok w.reply) old es) (sym unchanged) w.sent.made })
        (first_asked before (request_of w.sent.request) begins w.sent.asked) t.told t.decided t.same
    ended_performs middle after old between new answer w (AfterOne v) got =
        let went = went_from middle old between w in
        let again : next product_words reg call (reply_of w.reply) ≡ Asks (request_of v.sent.request) = asks_again middle (reply_of w.reply) (request_of v.sent.request) went v.sent.asked in
        let ends = v.went ∙ last_plan middle (reply_of w.reply) (reply_of v.reply) (request_of v.sent.request) went again in
        Twice between (answered w.reply before.ask old between w.sent) (first_asked before (request_of w.sent.request) begins w.sent.asked) (answered v.reply middle.ask between new v.sent) again
        (same_Some answer (answer_with_token (last product_words reg call (reply_of w.reply) (reply_of v.reply))) (sym got ∙ ap (λ (p : Progress). answer_in p.stage) ends))

    pub performs : (after : Progress) (old new : List Entry) (answer : Answer) → Ran reg before after failed tag old new → answer_in after.stage ≡ Some answer → Performs reg call failed tag old new answer
    performs after old new answer r got = ended_performs r.middle after old r.between new answer r.first r.rest got

    stops_at_first : (old new : List Entry) (error : LinkError) → Halted before failed tag old new error → Stops reg call failed tag old new error
    stops_at_first old new error (Unanswered s) = StopsAtFirst (record { request = s.request; made = s.made }) (first_asked before (request_of s.request) begins s.asked)
    stops_at_first old new error (Unread reply s memory) = After (answered reply before.ask old new s) (first_asked before (request_of s.request) begins s.asked) memory

    stops_at_second : (middle : Progress) (old between new : List Entry) (error : LinkError) → Went reg before middle failed tag old between → Halted middle failed tag between new error → Stops reg call failed tag old new error
    stops_at_second middle old between new error w (Unanswered s) =
        StopsAtSecond between (answered w.reply before.ask old between w.sent) (first_asked before (request_of w.sent.request) begins w.sent.asked) (record { request = s.request; made = s.made })
        (asks_again middle (reply_of w.reply) (request_of s.request) (went_from middle old between w) s.asked)
    stops_at_second middle old between new error w (Unread reply s memory) =
        AtLast between (answered w.reply before.ask old between w.sent) (first_asked before (request_of w.sent.request) begins w.sent.asked) (answered reply middle.ask between new s)
        (asks_again middle (reply_of w.reply) (request_of s.request) (went_from middle old between w) s.asked) memory

    pub stops_as : (old new : List Entry) (error : LinkError) → Broke reg before failed tag old new error → Stops reg call failed tag old new error
    stops_as old new error (AtFirst h) = stops_at_first old new error h
    stops_as old new error (AtSecond between middle w h) = stops_at_second middle old between new error w h

-- a second request that was not answered, after which the failed sends are those before the first
pub broke_second : (reg : Registry Op) (before middle : Progress) (failed failed_then : List FailedSend) (tag : ℕ) (old between new : List Entry) (error : LinkError) → failed_then ≡ failed →
    Went reg before middle failed tag old between → Halted middle failed_then tag between new error → Broke reg before failed tag old new error
broke_second reg before middle failed failed_then tag old between new error same w h = AtSecond between middle w (subst (λ (f : List FailedSend). Halted middle f tag between new error) same h)
