-- Clients: the calls of one, in order, by their plans; and what its calls mean on generations.
use Rattle.std.specs.Prelude.{ℕ, ◌+◌, List, [], ◌∷◌, Option, Some, None, if◌then◌else◌}
use Rattle.base_model.specs.Keyed.{Text, same}
use Rattle.race_model.specs.Stores.{Table, Store, Request, Reply, serve}
use Rattle.race_model.specs.Generations.{Generation, Generations, of_alias}
use Rattle.race_model.specs.Worlds.{Clients}
use Rattle.document_model.specs.Documents.{Doc}
use Rattle.document_model.specs.Registries.{Registry}
use Rattle.call_model.specs.Words.{Words}
use Rattle.call_model.specs.Calls.{Call, Answer}
use Rattle.call_model.specs.declared.refuse.Refuse.TheVariants.{NotReady}
use Rattle.query_model.specs.Queries.{Query, select}
use Rattle.call_model.specs.Steps.{refused, work_of, Outcome, called}
use Rattle.call_model.specs.Plans.{Next, first_of_work, then_of_work, last_of_work}
use Rattle.call_model.specs.Plans.Next.{Answers, Asks}

-- a client with the calls that it has left, and the first reply of the call in hand where that didn't decide it
pub record Script (A O : Type 0) : Type 0 where
  pub registry : Registry O
  pub calls : List (Call A)
  pub heard : Option (Reply (Doc A))
  -- the number of the call in hand
  pub number : ℕ

-- the first request of a call
abbrev pub first : {A O F : Type 0} → Words A O F → Registry O → Call A → Request (Doc A) (Query F)
first w reg call = first_of_work w reg (work_of w reg call)

-- what its first reply leads to
abbrev pub next : {A O F : Type 0} → Words A O F → Registry O → Call A → Reply (Doc A) → Next A F
next w reg call reply = then_of_work w reg (work_of w reg call) reply

-- its answer from two replies
abbrev pub last : {A O F : Type 0} → Words A O F → Registry O → Call A → (one two : Reply (Doc A)) → Answer A
last w reg call one two = last_of_work w reg (work_of w reg call) one two

-- the request that follows, if any
abbrev pub asked : {A F : Type 0} → Next A F → Option (Request (Doc A) (Query F))
asked (Answers a) = None
asked (Asks ask) = Some ask

-- the answer, if there is one
abbrev pub answer_of : {A F : Type 0} → Next A F → Option (Answer A)
answer_of (Answers a) = Some a
answer_of (Asks ask) = None

-- the request of the call in hand
abbrev pub asks_over : {A O F : Type 0} → Words A O F → Registry O → List (Call A) → Option (Reply (Doc A)) → Option (Request (Doc A) (Query F))
asks_over w reg [] heard = None
asks_over w reg (call ∷ calls) None = Some (first w reg call)
asks_over w reg (call ∷ calls) (Some reply) = asked (next w reg call reply)

-- the next call is in hand
abbrev pub with_next : {A O : Type 0} → Script A O → List (Call A) → Script A O
with_next c calls = record { registry = c.registry; calls = calls; heard = None; number = c.number + 1 }

-- the next call is in hand once this one has its answer
abbrev pub moved_on : {A O F : Type 0} → Script A O → List (Call A) → Reply (Doc A) → Next A F → Script A O
moved_on c calls reply (Answers a) = with_next c calls
moved_on c calls reply (Asks ask) = record { registry = c.registry; calls = c.calls; heard = Some reply; number = c.number }

-- a reply moves the call in hand on
abbrev pub told_over : {A O F : Type 0} → Words A O F → Script A O → List (Call A) → Option (Reply (Doc A)) → Reply (Doc A) → Script A O
told_over w c [] heard reply = c
told_over w c (call ∷ calls) None reply = moved_on c calls reply (next w c.registry call reply)
told_over w c (call ∷ calls) (Some r) reply = with_next c calls

-- what clients ask and how replies move them on
abbrev pub clients : {A O F : Type 0} → Words A O F → Clients (Doc A) (Query F) (Script A O)
clients w = record {
  asks = λ c. asks_over w c.registry c.calls c.heard;
  told = λ c reply. told_over w c c.calls c.heard reply;
  call = λ c. c.number;
}

-- the answer of the call in hand from this reply, if it decides it
abbrev pub decided_over : {A O F : Type 0} → Words A O F → Registry O → List (Call A) → Option (Reply (Doc A)) → Reply (Doc A) → Option (Answer A)
decided_over w reg [] heard reply = None
decided_over w reg (call ∷ calls) None reply = answer_of (next w reg call reply)
decided_over w reg (call ∷ calls) (Some r) reply = Some (last w reg call r reply)

-- the answer of the call in hand, where this reply decides it
abbrev pub decided : {A O F : Type 0} → Words A O F → Script A O → Reply (Doc A) → Option (Answer A)
decided w c reply = decided_over w c.registry c.calls c.heard reply

-- the generation of a registry's version
abbrev pub own : {A O F : Type 0} → Words A O F → Registry O → Generations (Doc A) → Option (Generation (Doc A))
own w reg gs = of_alias (w.version_alias reg.version) gs

-- what the call in hand means; a script without calls means nothing
abbrev pub outcome_over : {A O F : Type 0} → Words A O F → Registry O → List (Call A) → Generations (Doc A) → Generations (Doc A) → Outcome A
outcome_over w reg [] gs1 gs2 = (None, refused NotReady)
outcome_over w reg (call ∷ calls) gs1 gs2 = called w reg call (own w reg gs1) (own w reg gs2)

-- what the call in hand means on the generations at its first request and at its last
abbrev pub outcome : {A O F : Type 0} → Words A O F → Script A O → Generations (Doc A) → Generations (Doc A) → Outcome A
outcome w c gs1 gs2 = outcome_over w c.registry c.calls gs1 gs2

-- a generation with another table
abbrev pub with_table : {D : Type 0} → Generation D → Table D → Generation D
with_table g t = record { alias = g.alias; index = g.index; blocked = g.blocked; table = t }

-- the generation of the alias with this table
unfoldable pub replaced : {D : Type 0} → Text → Table D → Generations D → Generations D
replaced name t [] = []
replaced name t (g ∷ gs) = if same name g.alias then with_table g t ∷ gs else g ∷ replaced name t gs

-- the generation of the alias with this table, where there is one
abbrev pub replaced_where : {D : Type 0} → Text → Option (Table D) → Generations D → Generations D
replaced_where name None gs = gs
replaced_where name (Some t) gs = replaced name t gs

-- the generations that the call in hand leaves
abbrev pub left : {A O F : Type 0} → Words A O F → Script A O → Generations (Doc A) → Generations (Doc A) → Generations (Doc A)
left w c gs1 gs2 = replaced_where (w.version_alias c.registry.version) (outcome w c gs1 gs2).0 gs2

-- the second request, where the first reply leads to one
abbrev pub perform_next : {A O F : Type 0} → Words A O F → Registry O → Call A → (first : Reply (Doc A)) → Store (Doc A) → Next A F → Store (Doc A) × Answer A
perform_next w reg call one st (Answers a) = (st, a)
perform_next w reg call one st (Asks ask) = ((serve (select w.holds) st ask).0, last w reg call one (serve (select w.holds) st ask).1)

-- one thread: a call's requests, one after another on a store, and its answer
unfoldable pub performed : {A O F : Type 0} → Words A O F → Registry O → Store (Doc A) → Call A → Store (Doc A) × Answer A
performed w reg st call = perform_next w reg call (serve (select w.holds) st (first w reg call)).1 (serve (select w.holds) st (first w reg call)).0 (next w reg call (serve (select w.holds) st (first w reg call)).1)
