-- What a call leaves over a link.
use Rattle.std.specs.Prelude.{◌≡◌, ℕ, List, Ok, Err}
use Rattle.document_model.specs.Registries.{Registry}
use Rattle.so_js.specs.declared.js.Js.{Js}
use Rattle.transform_ops.specs.declared.op.Op.{Op}
use Rattle.store_words.specs.Links.{Makes}
use Rattle.store_words.specs.Words.{request_of, reply_of}
use Rattle.store_words.specs.declared.entry.Entry.{Entry}
use Rattle.store_words.specs.declared.link.FailedSend.{FailedSend}
use Rattle.store_words.specs.declared.link.LinkError.{LinkError}
use Rattle.store_words.specs.declared.link.LinkError.TheVariants.{Memory}
use Rattle.store_words.specs.declared.reply.Reply.{Reply}
use Rattle.store_words.specs.declared.request.Request.{Request}
use Rattle.call_model.specs.Calls as calls
use Rattle.call_model.specs.Plans.Next.{Answers, Asks}
use Rattle.call_model.specs.Scripts.{first, next, last}
use Rattle.call_words.specs.Product.{product_words}
use Rattle.call_words.specs.Told.{answer_with_token}
use Rattle.call_words.specs.declared.answers.Answer.{Answer}

-- a request of a call was answered, and added its entry
pub record Answered (failed : List FailedSend) (tag : ℕ) (old new : List Entry) : Type 0 where
  pub request : Request
  pub reply : Reply
  pub made : Makes failed tag request (Ok reply) old new

-- a request of a call was not answered
pub record Failed (failed : List FailedSend) (tag : ℕ) (old new : List Entry) (error : LinkError) : Type 0 where
  pub request : Request
  pub made : Makes failed tag request (Err error) old new

-- exactly the requests of the call's plan were made, and the answer is the plan's
pub data Performs (reg : Registry Op) (call : calls.Call Js) (failed : List FailedSend) (tag : ℕ) (old new : List Entry) (answer : Answer) : Type 0 where
  -- one request decided it
  Once : (sent : Answered failed tag old new) → request_of sent.request ≡ first product_words reg call →
      (told : calls.Answer Js) → next product_words reg call (reply_of sent.reply) ≡ Answers told →
      answer ≡ answer_with_token told → Performs reg call failed tag old new answer
  -- two requests, one after the other
  Twice : (between : List Entry) → (sent : Answered failed tag old between) → request_of sent.request ≡ first product_words reg call →
      (sent_then : Answered failed tag between new) → next product_words reg call (reply_of sent.reply) ≡ Asks (request_of sent_then.request) →
      answer ≡ answer_with_token (last product_words reg call (reply_of sent.reply) (reply_of sent_then.reply)) →
      Performs reg call failed tag old new answer

-- a front of the requests of the call's plan was made, and then it stopped
pub data Stops (reg : Registry Op) (call : calls.Call Js) (failed : List FailedSend) (tag : ℕ) (old new : List Entry) (error : LinkError) : Type 0 where
  -- memory ran out before the first request
  Before : new ≡ old → error ≡ Memory → Stops reg call failed tag old new error
  -- the first request was not answered
  AtFirst : (sent : Failed failed tag old new error) → request_of sent.request ≡ first product_words reg call →
      Stops reg call failed tag old new error
  -- memory ran out after a request was answered
  After : (sent : Answered failed tag old new) → request_of sent.request ≡ first product_words reg call →
      error ≡ Memory → Stops reg call failed tag old new error
  -- the second request was not answered
  AtSecond : (between : List Entry) → (sent : Answered failed tag old between) → request_of sent.request ≡ first product_words reg call →
      (sent_then : Failed failed tag between new error) → next product_words reg call (reply_of sent.reply) ≡ Asks (request_of sent_then.request) →
      Stops reg call failed tag old new error
  -- memory ran out after both were answered
  AtLast : (between : List Entry) → (sent : Answered failed tag old between) → request_of sent.request ≡ first product_words reg call →
      (sent_then : Answered failed tag between new) → next product_words reg call (reply_of sent.reply) ≡ Asks (request_of sent_then.request) →
      error ≡ Memory → Stops reg call failed tag old new error
