-- One request of a plan over a link, and what is left of a plan after it.
use Rattle.std.specs.Prelude.{◌≡◌, ℕ, List, Option, Some, None, Result, Ok, Err}
use Rattle.std.specs.Option.{IsSome}
use Rattle.document_model.specs.Documents.{Doc}
use Rattle.document_model.specs.Registries.{Registry}
use Rattle.race_model.specs.Stores as stores
use Rattle.so_js.specs.declared.js.Js.{Js}
use Rattle.transform_ops.specs.declared.op.Op.{Op}
use Rattle.store_words.specs.Links.{Makes}
use Rattle.store_words.specs.Words.{TextQuery, request_of, reply_of}
use Rattle.store_words.specs.declared.entry.Entry.{Entry}
use Rattle.store_words.specs.declared.link.FailedSend.{FailedSend}
use Rattle.store_words.specs.declared.link.LinkError.{LinkError}
use Rattle.store_words.specs.declared.link.LinkError.TheVariants.{Memory}
use Rattle.store_words.specs.declared.reply.Reply.{Reply}
use Rattle.store_words.specs.declared.request.Request.{Request}
use Rattle.object_ops.specs.Stages.{Stage, Progress, CanGoOn, AsksFew, went_on, answer_in}

-- there is a request, and a bulk is small
abbrev pub IsSmall : Option (stores.Request (Doc Js) TextQuery) → Type 0
IsSmall None = ⊥
IsSmall (Some ask) = AsksFew ask

-- the request that a plan asks was sent, with this result
pub record Sent (ask : Option (stores.Request (Doc Js) TextQuery)) (failed : List FailedSend) (tag : ℕ) (result : Result Reply LinkError) (old new : List Entry) : Type 0 where
  pub request : Request
  pub asked : ask ≡ Some (request_of request)
  pub made : Makes failed tag request result old new

-- a plan's request was answered, and the plan went on with the reply
pub record Went (reg : Registry Op) (before after : Progress) (failed : List FailedSend) (tag : ℕ) (old new : List Entry) : Type 0 where
  pub reply : Reply
  pub sent : Sent before.ask failed tag (Ok reply) old new
  pub went : after ≡ went_on reg before.stage (reply_of reply)

-- a plan's request was not answered, or memory ran out after its reply
pub data Halted (before : Progress) (failed : List FailedSend) (tag : ℕ) (old new : List Entry) (error : LinkError) : Type 0 where
  Unanswered : Sent before.ask failed tag (Err error) old new → Halted before failed tag old new error
  Unread : (reply : Reply) → Sent before.ask failed tag (Ok reply) old new → error ≡ Memory → Halted before failed tag old new error

-- a plan has its answer, or has it after the reply to one small request
abbrev pub EndsSoon : Registry Op → Stage → Option (stores.Request (Doc Js) TextQuery) → Type 0
EndsSoon reg stage None = IsSome (answer_in stage)
EndsSoon reg stage (Some ask) = AsksFew ask × CanGoOn reg stage × ((reply : stores.Reply (Doc Js)) → IsSome (answer_in (went_on reg stage reply).stage))

abbrev pub IsLast : Registry Op → Progress → Type 0
IsLast reg plan = EndsSoon reg plan.stage plan.ask

-- a plan came to its answer, at once or by its last request
pub data Ended (reg : Registry Op) (before after : Progress) (failed : List FailedSend) (tag : ℕ) (old new : List Entry) : Type 0 where
  AtOnce : before.ask ≡ None → after ≡ before → new ≡ old → Ended reg before after failed tag old new
  AfterOne : Went reg before after failed tag old new → Ended reg before after failed tag old new

-- a plan's first request was answered, and then it came to its answer
pub record Ran (reg : Registry Op) (before after : Progress) (failed : List FailedSend) (tag : ℕ) (old new : List Entry) : Type 0 where
  pub between : List Entry
  pub middle : Progress
  pub first : Went reg before middle failed tag old between
  pub rest : Ended reg middle after failed tag between new

-- a plan's first request was not answered, or its second
pub data Broke (reg : Registry Op) (before : Progress) (failed : List FailedSend) (tag : ℕ) (old new : List Entry) (error : LinkError) : Type 0 where
  AtFirst : Halted before failed tag old new error → Broke reg before failed tag old new error
  AtSecond : (between : List Entry) → (middle : Progress) → Went reg before middle failed tag old between → Halted middle failed tag between new error → Broke reg before failed tag old new error
