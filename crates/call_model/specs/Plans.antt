-- Which requests a call makes, and what it answers from their replies.
use Rattle.std.specs.Prelude.{ℕ, Bool, true, false, List, [], ◌∷◌, Option, Some, None, if◌then◌else◌}
use Rattle.base_model.specs.Keyed.{Text}
use Rattle.race_model.specs.Stores.{Cell, Write, Item, Request, Reply}
use Rattle.race_model.specs.Stores.Write.{Put}
use Rattle.race_model.specs.Stores.Request.{Ping, Get, Search, Bulk}
use Rattle.race_model.specs.Stores.Reply.{Selected, Found, Items}
use Rattle.race_model.specs.Stores.Refusal.{Blocked}
use Rattle.document_model.specs.Documents.{Doc}
use Rattle.document_model.specs.Registries.{Registry}
use Rattle.call_model.specs.Words.{Words}
use Rattle.query_model.specs.declared.parts.Target.{Target}
use Rattle.call_model.specs.Calls.{Find, Act, Answer}
use Rattle.call_model.specs.declared.refuse.Refuse.{Refuse}
use Rattle.call_model.specs.Calls.Act.{Create}
use Rattle.call_model.specs.declared.refuse.Refuse.TheVariants.{NotFound, Conflict, WriteBlocked, NotReady, Busy}
use Rattle.call_model.specs.Calls.Answer.{Refused}
use Rattle.query_model.specs.Queries.{Query}
use Rattle.call_model.specs.Acts.{raw_of, Deed, judge, success, dropped_one}
use Rattle.call_model.specs.Acts.Deed.{Deny, Make, Remake, Drop}
use Rattle.call_model.specs.Steps.{Turn, gone, number_of, same_number, seen_over, got, Look, query_of, page_of, alias_of, alias_target, target_raw, resolved_by, refused, form, Work}
use Rattle.call_model.specs.Steps.Turn.{Denied, Goes}
use Rattle.call_model.specs.Steps.Look.{Refuses, At}
use Rattle.call_model.specs.Steps.Work.{Refusing, Writing, Looking, Searching, Following}

-- items that write

-- an item whose answer is known, or which sends a write
pub data Ready (A : Type 0) : Type 0 where
  Settled : Refuse → Ready A
  Sends : (raw : Text) → (act : Act A) → (deed : Deed A) → Ready A

-- an item, by what its row showed
abbrev pub ready_over : {A : Type 0} → Text → Act A → Deed A → Ready A
ready_over raw act (Deny r) = Settled r
ready_over raw act deed = Sends raw act deed

-- the number and document of a row that was found
abbrev pub cell_of : {D : Type 0} → Option (Text × Cell D) → Option (Cell D)
cell_of None = None
cell_of (Some r) = Some r.1

-- the items, each judged by the row that was found for it; without rows, by none
unfoldable pub readied : {A O F : Type 0} → Words A O F → Registry O → Text → List (Turn A) → List (Option (Text × Cell (Doc A))) → List (Ready A)
readied w reg space [] rows = []
readied w reg space (Denied r ∷ ts) rows = Settled r ∷ readied w reg space ts rows
readied w reg space (Goes raw act ∷ ts) [] = ready_over raw act (judge w reg space act None) ∷ readied w reg space ts []
readied w reg space (Goes raw act ∷ ts) (row ∷ rows) = ready_over raw act (judge w reg space act (cell_of row)) ∷ readied w reg space ts rows

-- the raw ids of the items that are left to judge
abbrev pub raws_of : {A : Type 0} → List (Turn A) → List Text
raws_of [] = []
raws_of (Denied r ∷ ts) = raws_of ts
raws_of (Goes raw act ∷ ts) = raw ∷ raws_of ts

-- the write that an item sends, with the number that was read
abbrev pub write_of : {A : Type 0} → Text → Deed A → Write (Doc A)
write_of raw (Make doc) = Write.Create raw doc
write_of raw (Remake seen doc) = Put raw doc (Some seen)
write_of raw (Drop seen) = Write.Delete raw (Some seen)
write_of raw (Deny r) = Write.Delete raw None

-- the writes of all items that send one
abbrev pub writes_of : {A : Type 0} → List (Ready A) → List (Write (Doc A))
writes_of [] = []
writes_of (Settled r ∷ rs) = writes_of rs
writes_of (Sends raw act deed ∷ rs) = write_of raw deed ∷ writes_of rs

-- a row is there where none was expected
abbrev pub there : {A : Type 0} → Act A → ℕ → Refuse
there (Create o false time) n = Conflict
there act n = Busy None (Some n)

-- the answer that the item of a write gives; the items that no such write gives end as NotFound
abbrev pub told : {A O : Type 0} → Registry O → Text → Act A → Deed A → Item → Answer A
told reg raw act (Make doc) (Item.Written n) = success reg raw act n doc
told reg raw act (Make doc) (Item.Exists n) = Refused (there act n)
told reg raw act (Remake seen doc) (Item.Written n) = success reg raw act n doc
told reg raw act (Remake seen doc) (Item.Conflict None) = Refused (gone act (Some seen))
told reg raw act (Remake seen doc) (Item.Conflict (Some n)) = Refused (Busy (Some seen) (Some n))
told reg raw act (Drop seen) (Item.Written n) = dropped_one act
told reg raw act (Drop seen) (Item.Conflict now) = Refused (Busy (Some seen) now)
told reg raw act deed item = Refused NotFound

-- the answers of all items, from the items of the bulk's reply
unfoldable pub answers : {A O : Type 0} → Registry O → List (Ready A) → List Item → List (Answer A)
answers reg [] items = []
answers reg (Settled r ∷ rs) items = Refused r ∷ answers reg rs items
answers reg (Sends raw act deed ∷ rs) [] = answers reg rs []
answers reg (Sends raw act deed ∷ rs) (item ∷ items) = told reg raw act deed item ∷ answers reg rs items

-- the answers where the bulk met a block
abbrev pub blocked_answers : {A : Type 0} → List (Ready A) → List (Answer A)
blocked_answers [] = []
blocked_answers (Settled r ∷ rs) = Refused r ∷ blocked_answers rs
blocked_answers (Sends raw act deed ∷ rs) = Refused WriteBlocked ∷ blocked_answers rs

-- the answer to a bulk; any other reply says that the index isn't there
abbrev pub bulk_answer : {A O : Type 0} → Registry O → Bool → List (Ready A) → Reply (Doc A) → Answer A
bulk_answer reg alone rs (Items items) = form alone (answers reg rs items)
bulk_answer reg alone rs (Reply.Refused (Blocked name)) = form alone (blocked_answers rs)
bulk_answer reg alone rs _ = refused NotReady

-- what a call is about to do
pub data Next (A F : Type 0) : Type 0 where
  Answers : Answer A → Next A F
  Asks : Request (Doc A) (Query F) → Next A F

-- creates without overwrite read nothing
abbrev pub is_blind : {A : Type 0} → Act A → Bool
is_blind (Create o false time) = true
is_blind _ = false

-- no item that is left to judge reads
abbrev pub all_blind : {A : Type 0} → List (Turn A) → Bool
all_blind [] = true
all_blind (Denied r ∷ ts) = all_blind ts
all_blind (Goes raw act ∷ ts) = if is_blind act then all_blind ts else false

-- the first request: a read of all raw ids, or the writes where nothing is read
abbrev pub writing_first : {A O F : Type 0} → Words A O F → Registry O → Text → Bool → List Text → List (Turn A) → Request (Doc A) (Query F)
writing_first w reg space blind [] ts = Ping
writing_first w reg space true (raw ∷ raws) ts = Bulk (w.version_alias reg.version) (writes_of (readied w reg space ts []))
writing_first w reg space false (raw ∷ raws) ts = Get (w.version_alias reg.version) (raw ∷ raws)

-- the bulk, where an item is left to write
abbrev pub sent : {A O F : Type 0} → Words A O F → Registry O → Bool → List (Write (Doc A)) → List (Ready A) → Next A F
sent w reg alone [] rs = Answers (form alone (answers reg rs []))
sent w reg alone (x ∷ writes) rs = Asks (Bulk (w.version_alias reg.version) (x ∷ writes))

-- after the read: the writes, each with its row's number
abbrev pub after_read : {A O F : Type 0} → Words A O F → Registry O → Bool → Text → List (Turn A) → Reply (Doc A) → Next A F
after_read w reg alone space ts (Found rows) = sent w reg alone (writes_of (readied w reg space ts rows)) (readied w reg space ts rows)
after_read w reg alone space ts _ = Answers (refused NotReady)

-- what the first reply of a writing call leads to
abbrev pub writing_then : {A O F : Type 0} → Words A O F → Registry O → Bool → Text → Bool → List Text → List (Turn A) → Reply (Doc A) → Next A F
writing_then w reg alone space blind [] ts reply = Answers (form alone (answers reg (readied w reg space ts []) []))
writing_then w reg alone space true (raw ∷ raws) ts reply = Answers (bulk_answer reg alone (readied w reg space ts []) reply)
writing_then w reg alone space false (raw ∷ raws) ts reply = after_read w reg alone space ts reply

-- the answer from the reply to its writes
abbrev pub writing_last : {A O F : Type 0} → Words A O F → Registry O → Bool → Text → List (Turn A) → Reply (Doc A) → Reply (Doc A) → Answer A
writing_last w reg alone space ts (Found rows) reply = bulk_answer reg alone (readied w reg space ts rows) reply
writing_last w reg alone space ts _ reply = refused NotReady

-- items that read

-- the raw ids of the targets to look up
abbrev pub looked_raws : {O : Type 0} → Registry O → Text → List Look → List Text
looked_raws reg space [] = []
looked_raws reg space (Refuses r ∷ ls) = looked_raws reg space ls
looked_raws reg space (At t ∷ ls) = raw_of reg space t ∷ looked_raws reg space ls

-- the answers, from the rows found
unfoldable pub looked : {A O : Type 0} → Registry O → Text → List Look → List (Option (Text × Cell (Doc A))) → List (Answer A)
looked reg space [] rows = []
looked reg space (Refuses r ∷ ls) rows = Refused r ∷ looked reg space ls rows
looked reg space (At t ∷ ls) [] = looked reg space ls []
looked reg space (At t ∷ ls) (row ∷ rows) = got reg (raw_of reg space t) (seen_over reg space t (cell_of row)) ∷ looked reg space ls rows

-- the first request of a read: none of the store where no target is left
abbrev pub look_first : {A O F : Type 0} → Words A O F → Registry O → List Text → Request (Doc A) (Query F)
look_first w reg [] = Ping
look_first w reg (raw ∷ raws) = Get (w.version_alias reg.version) (raw ∷ raws)

-- the answer from the rows that were found
abbrev pub found_answer : {A O : Type 0} → Registry O → Bool → Text → List Look → Reply (Doc A) → Answer A
found_answer reg alone space ls (Found rows) = form alone (looked reg space ls rows)
found_answer reg alone space ls _ = refused NotReady

-- the answer to a read
abbrev pub look_answer : {A O : Type 0} → Registry O → Bool → Text → List Text → List Look → Reply (Doc A) → Answer A
look_answer reg alone space [] ls reply = form alone (looked reg space ls [])
look_answer reg alone space (raw ∷ raws) ls reply = found_answer reg alone space ls reply

-- the answer to a search
abbrev pub page_answer : {A O F : Type 0} → Words A O F → Registry O → Text → Find → Reply (Doc A) → Answer A
page_answer w reg space f (Selected total rows) = page_of reg f total rows
page_answer w reg space f _ = refused NotReady

-- resolve: the exact row and the alias's, then both again with the target's

-- where no alias leads to a target the first read decides; else a read of the three rows follows
abbrev pub follow_target : {A O F : Type 0} → Words A O F → Registry O → Text → Target → Option Target → Option (Cell (Doc A)) → Next A F
follow_target w reg space q None exact = Answers (resolved_by reg space q None exact (λ a. None))
follow_target w reg space q (Some a) exact = Asks (Get (w.version_alias reg.version) (raw_of reg space q ∷ alias_of space q ∷ target_raw a ∷ []))

-- what the first reply of a resolve leads to
abbrev pub follow_then : {A O F : Type 0} → Words A O F → Registry O → Text → Target → Reply (Doc A) → Next A F
follow_then w reg space q (Found (exact ∷ link ∷ [])) = follow_target w reg space q (alias_target w (cell_of link)) (cell_of exact)
follow_then w reg space q _ = Answers (refused NotReady)

-- by the second read, where the alias has the same number in both
abbrev pub follow_between : {A O F : Type 0} → Words A O F → Registry O → Text → Target → Option (Cell (Doc A)) → (exact link goal : Option (Cell (Doc A))) → Answer A
follow_between w reg space q seen exact link goal =
    if same_number (number_of seen) (number_of link) then resolved_by reg space q (alias_target w link) exact (λ a. goal) else refused (Busy (number_of seen) (number_of link))

-- the answer of a resolve from both replies
abbrev pub follow_last : {A O F : Type 0} → Words A O F → Registry O → Text → Target → Reply (Doc A) → Reply (Doc A) → Answer A
follow_last w reg space q (Found (exact ∷ link ∷ [])) (Found (exact2 ∷ link2 ∷ goal2 ∷ [])) = follow_between w reg space q (cell_of link) (cell_of exact2) (cell_of link2) (cell_of goal2)
follow_last w reg space q _ _ = refused NotReady

-- whole plans

-- the first request
abbrev pub first_of_work : {A O F : Type 0} → Words A O F → Registry O → Work A → Request (Doc A) (Query F)
first_of_work w reg (Refusing r) = Ping
first_of_work w reg (Writing alone space ts) = writing_first w reg space (all_blind ts) (raws_of ts) ts
first_of_work w reg (Looking alone space ls) = look_first w reg (looked_raws reg space ls)
first_of_work w reg (Searching space f) = Search (w.version_alias reg.version) (query_of w reg space f)
first_of_work w reg (Following space q) = Get (w.version_alias reg.version) (raw_of reg space q ∷ alias_of space q ∷ [])

-- what the first reply leads to
abbrev pub then_of_work : {A O F : Type 0} → Words A O F → Registry O → Work A → Reply (Doc A) → Next A F
then_of_work w reg (Refusing r) reply = Answers (refused r)
then_of_work w reg (Writing alone space ts) reply = writing_then w reg alone space (all_blind ts) (raws_of ts) ts reply
then_of_work w reg (Looking alone space ls) reply = Answers (look_answer reg alone space (looked_raws reg space ls) ls reply)
then_of_work w reg (Searching space f) reply = Answers (page_answer w reg space f reply)
then_of_work w reg (Following space q) reply = follow_then w reg space q reply

-- the answer from the two replies of a call with two requests
abbrev pub last_of_work : {A O F : Type 0} → Words A O F → Registry O → Work A → (first second : Reply (Doc A)) → Answer A
last_of_work w reg (Writing alone space ts) first second = writing_last w reg alone space ts first second
last_of_work w reg (Following space q) first second = follow_last w reg space q first second
last_of_work w reg work first second = refused NotReady
