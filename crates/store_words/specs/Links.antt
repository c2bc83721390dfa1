-- What a send over a link may leave.
use Rattle.std.specs.Prelude.{◌≡◌, ℕ, ◌+◌, ◌-◌, ◌^◌, ◌≤◌, min, Bool, true, false, List, [], ◌∷◌, ◌++◌, length, count_by, Result, Ok, Err, ◌⊎◌, ⊤}
use Rattle.doc_table.specs.RowLists.{Each}
use Rattle.store_words.specs.declared.request.Request.{Request}
use Rattle.store_words.specs.declared.request.Request.TheVariants.{Bulk}
use Rattle.store_words.specs.declared.reply.Reply.{Reply}
use Rattle.store_words.specs.declared.entry.How.{How}
use Rattle.store_words.specs.declared.entry.How.TheVariants.{Heard, Unheard, Late}
use Rattle.store_words.specs.declared.entry.Entry.{Entry}
use Rattle.store_words.specs.declared.link.FailedSend.{FailedSend}
use Rattle.store_words.specs.declared.link.LinkError.{LinkError}
use Rattle.store_words.specs.declared.link.LinkError.TheVariants.{Fault, Memory, JournalFull}

-- a count one higher, up to its type's end
abbrev pub risen : ℕ → ℕ
risen n = min (n + 1) (2 ^ 64 - 1)

-- the count has risen, or stands at its type's end
abbrev pub Rose : ℕ → ℕ → Type 0
Rose before now = risen before ≤ now

-- a bulk has at most 65,536 writes
abbrev pub IsSendable : Request → Type 0
IsSendable (Bulk index items) = length items ≤ 65536
IsSendable _ = ⊤

abbrev pub is_heard : How → Bool
is_heard Heard = true
is_heard Unheard = false
is_heard Late = false

abbrev pub heard_in : List Entry → ℕ
heard_in entries = count_by (λ e. is_heard e.how) entries

-- the failed sends after a send with this number and answer
abbrev pub failed_after : List FailedSend → ℕ → Request → ℕ → List Entry → Result Reply LinkError → List FailedSend
failed_after failed tag request send entries (Ok reply) = failed
failed_after failed tag request send entries (Err Fault) = failed ++ record { tag = tag; request = request; send = send; heard = heard_in entries } ∷ []
failed_after failed tag request send entries (Err Memory) = failed
failed_after failed tag request send entries (Err (JournalFull n)) = failed

-- one of the failed sends has this tag and request
unfoldable pub HasFailed : ℕ → Request → List FailedSend → Type 0
HasFailed tag request [] = ⊥
HasFailed tag request (f ∷ fs) = ((f.tag ≡ tag) × (f.request ≡ request)) ⊎ HasFailed tag request fs

-- a Late entry repeats a failed send
pub record IsLate (failed : List FailedSend) (e : Entry) : Type 0 where
  pub how : e.how ≡ Late
  pub repeats : HasFailed e.tag e.request failed

-- an Unheard entry is of this send
pub record IsUnheard (tag : ℕ) (request : Request) (e : Entry) : Type 0 where
  pub how : e.how ≡ Unheard
  pub tags : e.tag ≡ tag
  pub requests : e.request ≡ request

abbrev pub is_unheard : How → Bool
is_unheard Heard = false
is_unheard Unheard = true
is_unheard Late = false

abbrev pub unheard_in : List Entry → ℕ
unheard_in entries = count_by (λ e. is_unheard e.how) entries

-- late entries, and last the one whose reply was heard
pub record EndsHeard (failed : List FailedSend) (tag : ℕ) (request : Request) (reply : Reply) (made : List Entry) : Type 0 where
  pub late : List Entry
  pub actor : ℕ
  pub whole : made ≡ late ++ record { actor = actor; tag = tag; how = Heard; request = request; reply = reply } ∷ []
  pub others : Each (IsLate failed) late

-- late entries, and one at most of the send that failed
pub record EndsUnheard (failed : List FailedSend) (tag : ℕ) (request : Request) (made : List Entry) : Type 0 where
  pub each : Each (λ e. IsLate failed e ⊎ IsUnheard tag request e) made
  pub once : unheard_in made ≤ 1

-- the entries that a send makes, by the sends that failed before and its answer
abbrev pub MadeBy : List FailedSend → ℕ → Request → Result Reply LinkError → List Entry → Type 0
MadeBy failed tag request (Ok reply) made = EndsHeard failed tag request reply made
MadeBy failed tag request (Err Fault) made = EndsUnheard failed tag request made
MadeBy failed tag request (Err Memory) made = Each (IsLate failed) made
MadeBy failed tag request (Err (JournalFull n)) made = Each (IsLate failed) made

-- the entries before go on with those that the send makes
pub record Makes (failed : List FailedSend) (tag : ℕ) (request : Request) (result : Result Reply LinkError) (old new : List Entry) : Type 0 where
  pub made : List Entry
  pub grown : new ≡ old ++ made
  pub by_answer : MadeBy failed tag request result made
