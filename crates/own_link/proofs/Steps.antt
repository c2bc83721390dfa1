-- What a call performs on a store with its journal.
use Rattle.std.proofs.Common.{◌≡◌, ℕ, ◌+◌, ◌-◌, ◌<◌, ◌≤◌, List, [], length, sym, ◌∙◌, ap, subst, arith}
use Rattle.base_model.specs.Keyed.{Text}
use Rattle.race_model.specs.Stores as stores
use Rattle.race_model.specs.Stores.{serve}
use Rattle.document_model.specs.Documents.{Doc}
use Rattle.document_model.specs.Registries.{Registry}
use Rattle.query_model.specs.Queries.{select}
use Rattle.so_js.specs.declared.js.Js.{Js}
use Rattle.transform_ops.specs.declared.op.Op.{Op}
use Rattle.doc_query.specs.Mapped.{holds_of}
use Rattle.store_words.specs.Serving.{Store, served, replayed, Replays}
use Rattle.store_words.specs.Words.{TextQuery, request_of, reply_of}
use Rattle.store_words.specs.declared.entry.Entry.{Entry}
use Rattle.store_words.specs.declared.link.LinkError.TheVariants.{JournalFull}
use Rattle.store_words.specs.declared.request.Request.{Request}
use Rattle.store_core.specs.Journals.{Journaled, IsJournaled}
use Rattle.call_model.specs.Calls as calls
use Rattle.call_model.specs.Plans.{Next}
use Rattle.call_model.specs.Plans.Next.{Answers, Asks}
use Rattle.call_model.specs.Scripts.{first, next, last, perform_next, performed}
use Rattle.call_words.specs.Product.{product_words}
use Rattle.call_words.specs.Told.{answer_with_token}
use Rattle.call_words.specs.declared.answers.Answer.{Answer}
use Rattle.object_repo.specs.Performing.{Performs, Stops}
use Rattle.object_repo.specs.Performing.Performs.{Once, Twice}
use Rattle.object_repo.specs.Performing.Stops.{Before, AtFirst, After, AtSecond, AtLast}
use Rattle.own_link.specs.Calling.{requests_over, requests_on}
use Rattle.own_link.proofs.Sends.{one_more, nothing_made}
use Rattle.own_link.proofs.Journals.{served_one}

-- the requests and the answer of a call are those that it performs on the store
pub record IsStep (reg : Registry Op) (call : calls.Call Js) (st left : Store) (old new : List Entry) (answer : Answer) : Type 0 where
  pub told : answer ≡ answer_with_token (performed product_words reg st call).1
  pub store : left ≡ (performed product_words reg st call).0
  pub requests : length new ≡ length old + requests_on reg st call

at_least_one : (n : Next Js Text) → 1 ≤ requests_over n
at_least_one (Answers answer) = omega arith
at_least_one (Asks ask) = omega arith

module _ (reg : Registry Op) (call : calls.Call Js) where
  asked_first : Store → stores.Answer (Doc Js)
  asked_first st = serve (select holds_of) st (first product_words reg call)

  -- by the answer to the first request, and what it leads to
  performed_by : (st one : Store) (reply : stores.Reply (Doc Js)) (n : Next Js Text) →
      (asked_first st).1 ≡ reply → (asked_first st).0 ≡ one → next product_words reg call reply ≡ n →
      performed product_words reg st call ≡ perform_next product_words reg call reply one n
  unfolding performed asked_first
  performed_by st one reply n told left leads =
      ap (λ (r : stores.Reply (Doc Js)). perform_next product_words reg call r (asked_first st).0 (next product_words reg call r)) told
      ∙ ap (λ (s : Store). perform_next product_words reg call reply s (next product_words reg call reply)) left
      ∙ ap (λ (m : Next Js Text). perform_next product_words reg call reply one m) leads

  requests_by : (st : Store) (reply : stores.Reply (Doc Js)) (n : Next Js Text) →
      (asked_first st).1 ≡ reply → next product_words reg call reply ≡ n → requests_on reg st call ≡ requests_over n
  unfolding requests_on asked_first
  requests_by st reply n told leads = ap (λ (r : stores.Reply (Doc Js)). requests_over (next product_words reg call r)) told ∙ ap requests_over leads

  some_request : (st : Store) → 1 ≤ requests_on reg st call
  unfolding requests_on
  some_request st = at_least_one (next product_words reg call (serve (select holds_of) st (first product_words reg call)).1)

  first_told : (st : Store) (request : Request) (reply : stores.Reply (Doc Js)) → request_of request ≡ first product_words reg call → (served st request).1 ≡ reply → (asked_first st).1 ≡ reply
  unfolding asked_first
  first_told st request reply asked told = ap (λ (r : stores.Request (Doc Js) TextQuery). (serve (select holds_of) st r).1) (sym asked) ∙ told

  first_left : (st one : Store) (request : Request) → request_of request ≡ first product_words reg call → one ≡ (served st request).0 → (asked_first st).0 ≡ one
  unfolding asked_first
  first_left st one request asked left = ap (λ (r : stores.Request (Doc Js) TextQuery). (serve (select holds_of) st r).0) (sym asked) ∙ sym left

  module _ (opening : Store) (tag : ℕ) (old new : List Entry) (replays : Replays opening new) where
    step_over : (answer : Answer) → Performs reg call [] tag old new answer → IsStep reg call (replayed opening old) (replayed opening new) old new answer
    step_over answer (Once sent asked told decided same) =
        let s = served_one opening sent.request sent.reply old new (one_more tag old new sent) replays in
        let reply = first_told (replayed opening old) sent.request (reply_of sent.reply) asked s.told in
        let left = first_left (replayed opening old) (replayed opening new) sent.request asked s.after in
        let whole = performed_by (replayed opening old) (replayed opening new) (reply_of sent.reply) (Answers told) reply left decided in
        let count : requests_on reg (replayed opening old) call ≡ 1 = requests_by (replayed opening old) (reply_of sent.reply) (Answers told) reply decided in
        let longer : length new ≡ length old + 1 = s.longer in
        record {
          told = same ∙ ap (λ (x : Store × calls.Answer Js). answer_with_token x.1) (sym whole);
          store = ap (λ (x : Store × calls.Answer Js). x.0) (sym whole);
          requests = omega arith;
        }
    step_over answer (Twice between sent asked sent_then again same) =
        let two = served_one opening sent_then.request sent_then.reply between new (one_more tag between new sent_then) replays in
        let one = served_one opening sent.request sent.reply old between (one_more tag old between sent) two.before in
        let reply = first_told (replayed opening old) sent.request (reply_of sent.reply) asked one.told in
        let left = first_left (replayed opening old) (replayed opening between) sent.request asked one.after in
        let whole = performed_by (replayed opening old) (replayed opening between) (reply_of sent.reply) (Asks (request_of sent_then.request)) reply left again in
        let count : requests_on reg (replayed opening old) call ≡ 2 = requests_by (replayed opening old) (reply_of sent.reply) (Asks (request_of sent_then.request)) reply again in
        let longer : length between ≡ length old + 1 = one.longer in
        let longest : length new ≡ length between + 1 = two.longer in
        record {
          told = same ∙ ap (λ (r : stores.Reply (Doc Js)). answer_with_token (last product_words reg call (reply_of sent.reply) r)) (sym two.told)
              ∙ ap (λ (x : Store × calls.Answer Js). answer_with_token x.1) (sym whole);
          store = two.after ∙ ap (λ (x : Store × calls.Answer Js). x.0) (sym whole);
          requests = omega arith;
        }

    full_over : (limit n : ℕ) → length new ≡ limit → Stops reg call [] tag old new (JournalFull n) → limit - length old < requests_on reg (replayed opening old) call
    full_over limit n full (Before same error) = cc
    full_over limit n full (AtFirst sent asked) =
        let same : length new ≡ length old = ap length (nothing_made tag n old new sent) in
        let some : 1 ≤ requests_on reg (replayed opening old) call = some_request (replayed opening old) in
        omega arith
    full_over limit n full (After sent asked error) = cc
    full_over limit n full (AtSecond between sent asked sent_then again) =
        let nothing = nothing_made tag n between new sent_then in
        let one = served_one opening sent.request sent.reply old between (one_more tag old between sent) (subst (λ (es : List Entry). Replays opening es) nothing replays) in
        let reply = first_told (replayed opening old) sent.request (reply_of sent.reply) asked one.told in
        let count : requests_on reg (replayed opening old) call ≡ 2 = requests_by (replayed opening old) (reply_of sent.reply) (Asks (request_of sent_then.request)) reply again in
        let longer : length between ≡ length old + 1 = one.longer in
        let same : length new ≡ length between = ap length nothing in
        omega arith
    full_over limit n full (AtLast between sent asked sent_then again error) = cc

  pub performs_step : (tag : ℕ) (old new : Journaled) (answer : Answer) → IsJournaled old → IsJournaled new → new.opening ≡ old.opening →
      Performs reg call [] tag old.journal new.journal answer → IsStep reg call old.store new.store old.journal new.journal answer
  performs_step tag old new answer before after opening performs =
      let replays = subst (λ (st : Store). Replays st new.journal) opening after.replies in
      let left : new.store ≡ replayed old.opening new.journal = after.store ∙ ap (λ (st : Store). replayed st new.journal) opening in
      let s = step_over old.opening tag old.journal new.journal replays answer performs in
      subst (λ (st : Store). IsStep reg call old.store st old.journal new.journal answer) (sym left)
      (subst (λ (st : Store). IsStep reg call st (replayed old.opening new.journal) old.journal new.journal answer) (sym before.store) s)

  pub stops_full : (tag n : ℕ) (old new : Journaled) → IsJournaled old → IsJournaled new → new.opening ≡ old.opening → length new.journal ≡ old.limit →
      Stops reg call [] tag old.journal new.journal (JournalFull n) → old.limit - length old.journal < requests_on reg old.store call
  stops_full tag n old new before after opening full stops =
      let replays = subst (λ (st : Store). Replays st new.journal) opening after.replies in
      subst (λ (st : Store). old.limit - length old.journal < requests_on reg st call) (sym before.store)
      (full_over old.opening tag old.journal new.journal replays old.limit n full stops)
