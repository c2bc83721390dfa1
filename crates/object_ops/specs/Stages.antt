-- How a plan goes on, reply by reply, and what it needs to read the next one.
use Rattle.std.specs.Prelude.{ℕ, ◌≤◌, ⊤, Bool, true, false, List, [], ◌∷◌, length, Option, Some, None}
use Rattle.base_model.specs.Keyed.{Text}
use Rattle.race_model.specs.Stores.{Write, Request, Reply}
use Rattle.race_model.specs.Stores.Request.{Ping, Get, Search, Bulk}
use Rattle.race_model.specs.Stores.Reply.{Found}
use Rattle.document_model.specs.Documents.{Doc}
use Rattle.document_model.specs.Registries.{Registry}
use Rattle.query_model.specs.declared.parts.Target.{Target}
use Rattle.so_js.specs.declared.js.Js.{Js}
use Rattle.transform_ops.specs.declared.op.Op.{Op}
use Rattle.raw_id.specs.IndexNames.{version_alias}
use Rattle.store_words.specs.Words.{TextQuery}
use Rattle.call_model.specs.Calls as calls
use Rattle.call_model.specs.Calls.Call.{BulkCreating}
use Rattle.call_model.specs.declared.refuse.Refuse.TheVariants.{NotReady}
use Rattle.call_model.specs.Acts.{raw_of}
use Rattle.call_model.specs.Steps.{Turn, Look, Work, work_of, query_of, alias_of, target_raw, refused, form}
use Rattle.call_model.specs.Steps.Work.{Refusing, Writing, Looking, Searching, Following}
use Rattle.call_model.specs.Plans.{Ready, readied, raws_of, writes_of, answers, bulk_answer, all_blind, looked_raws, looked, found_answer}
use Rattle.call_words.specs.Product.{product_words}
use Rattle.call_words.specs.Told.{answer_with_token}
use Rattle.call_words.specs.declared.answers.Answer.{Answer}
use Rattle.object_answers.specs.Following.{followed, between}
use Rattle.object_answers.specs.Paging.{page_from}
use Rattle.object_answers.specs.declared.resolving.Followed.{Followed}
use Rattle.object_answers.specs.declared.resolving.Followed.TheVariants.{Answered, Leads}
use Rattle.object_items.specs.Judging.{AreJudgeable}

-- what a plan waits for, with what it needs to read the next reply
pub data Stage : Type 0 where
  -- it asks nothing of the store, and this is its answer
  Known : Answer → Stage
  -- it reads the rows of its items
  Reads : (alone : Bool) → (space : Text) → List (Turn Js) → Stage
  -- it writes its items
  Writes : (alone : Bool) → List (Ready Js) → Stage
  -- it reads the rows that it answers
  Looks : (alone : Bool) → (space : Text) → List Look → Stage
  -- it searches for a page
  Searches : (page per_page : ℕ) → Stage
  -- it reads the exact row and the alias document
  Follows : (space : Text) → Target → Stage
  -- it reads both again beside the alias's target
  Meets : (space : Text) → Target → (seen : Option ℕ) → Stage
  -- it has its answer
  Ended : Answer → Stage

-- a plan: its next request, if it has one, and its stage
pub record Progress : Type 0 where
  pub ask : Option (Request (Doc Js) TextQuery)
  pub stage : Stage

-- it asks next
abbrev pub asking : Request (Doc Js) TextQuery → Stage → Progress
asking ask stage = record { ask = Some ask; stage = stage }

-- it is answered
abbrev pub ended : Answer → Progress
ended answer = record { ask = None; stage = Ended answer }

-- it is answered as the definitions say
abbrev pub ended_as : calls.Answer Js → Progress
ended_as answer = ended (answer_with_token answer)

-- the answer, if it has one
abbrev pub answer_in : Stage → Option Answer
answer_in (Ended answer) = Some answer
answer_in _ = None

-- ---- how it begins

-- items that write: a ping where none is left to judge, the writes where nothing is read, and else a read of their rows
abbrev pub begun_writing : Registry Op → Bool → Text → (blind : Bool) → List Text → List (Turn Js) → Progress
begun_writing reg alone space blind [] ts = asking Ping (Known (answer_with_token (form alone (answers reg (readied product_words reg space ts []) []))))
begun_writing reg alone space true (raw ∷ raws) ts = asking (Bulk (version_alias reg.version) (writes_of (readied product_words reg space ts []))) (Writes alone (readied product_words reg space ts []))
begun_writing reg alone space false (raw ∷ raws) ts = asking (Get (version_alias reg.version) (raw ∷ raws)) (Reads alone space ts)

-- items that read: a ping where none is left to look up, and else a read of their rows
abbrev pub begun_looking : Registry Op → Bool → Text → List Text → List Look → Progress
begun_looking reg alone space [] ls = asking Ping (Known (answer_with_token (form alone (looked reg space ls []))))
begun_looking reg alone space (raw ∷ raws) ls = asking (Get (version_alias reg.version) (raw ∷ raws)) (Looks alone space ls)

abbrev pub begun_work : Registry Op → Work Js → Progress
begun_work reg (Refusing r) = asking Ping (Known (answer_with_token (refused r)))
begun_work reg (Writing alone space ts) = begun_writing reg alone space (all_blind ts) (raws_of ts) ts
begun_work reg (Looking alone space ls) = begun_looking reg alone space (looked_raws reg space ls) ls
begun_work reg (Searching space f) = asking (Search (version_alias reg.version) (query_of product_words reg space f)) (Searches f.page f.per_page)
begun_work reg (Following space q) = asking (Get (version_alias reg.version) (raw_of reg space q ∷ alias_of space q ∷ [])) (Follows space q)

-- the plan of a call before its first request
unfoldable pub begun : Registry Op → calls.Call Js → Progress
begun reg call = begun_work reg (work_of product_words reg call)

-- ---- how it goes on

-- the writes of the items that send one, or the answer where none does
abbrev pub sending : Registry Op → Bool → List (Write (Doc Js)) → List (Ready Js) → Progress
sending reg alone [] rs = ended_as (form alone (answers reg rs []))
sending reg alone (x ∷ writes) rs = asking (Bulk (version_alias reg.version) (x ∷ writes)) (Writes alone rs)

abbrev pub after_reading : Registry Op → Bool → Text → List (Turn Js) → Reply (Doc Js) → Progress
after_reading reg alone space ts (Found rows) = sending reg alone (writes_of (readied product_words reg space ts rows)) (readied product_words reg space ts rows)
after_reading reg alone space ts _ = ended_as (refused NotReady)

-- a read of the three rows, where an alias leads on
abbrev pub after_following : Registry Op → Text → Target → Followed → Progress
after_following reg space q (Answered answer) = ended answer
after_following reg space q (Leads seen goal) = asking (Get (version_alias reg.version) (raw_of reg space q ∷ alias_of space q ∷ target_raw goal ∷ [])) (Meets space q seen)

-- after the reply to its request
unfoldable pub went_on : Registry Op → Stage → Reply (Doc Js) → Progress
went_on reg (Known answer) reply = ended answer
went_on reg (Reads alone space ts) reply = after_reading reg alone space ts reply
went_on reg (Writes alone rs) reply = ended_as (bulk_answer reg alone rs reply)
went_on reg (Looks alone space ls) reply = ended_as (found_answer reg alone space ls reply)
went_on reg (Searches page per_page) reply = ended_as (page_from reg page per_page reply)
went_on reg (Follows space q) reply = after_following reg space q (followed reg space q reply)
went_on reg (Meets space q seen) reply = ended_as (between reg space q seen reply)
went_on reg (Ended answer) reply = ended answer

-- ---- what it takes to go on

-- the own words of the items that it reads rows for don't refuse them
abbrev pub CanGoOn : Registry Op → Stage → Type 0
CanGoOn reg (Reads alone space ts) = AreJudgeable reg ts
CanGoOn reg _ = ⊤

-- a bulk of creates has at most 10,000 objects
abbrev pub FewObjects : calls.Call Js → Type 0
FewObjects (BulkCreating space objects overwrite time) = length objects ≤ 10000
FewObjects _ = ⊤

-- a bulk has at most 10,000 writes
abbrev pub AsksFew : Request (Doc Js) TextQuery → Type 0
AsksFew (Bulk name writes) = length writes ≤ 10000
AsksFew _ = ⊤
