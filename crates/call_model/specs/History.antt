-- The history of a journal with the calls of its clients, and which journals are legal.
use Rattle.std.specs.Prelude.{◌≡◌, ℕ, ◌+◌, Bool, true, false, ◌&&◌, List, [], ◌∷◌, ◌++◌, map, Option, Some, ◌==◌, nat_lt, if◌then◌else◌}
use Rattle.base_model.specs.Keyed.{Text}
use Rattle.race_model.specs.Machines.{Settings}
use Rattle.race_model.specs.Generations.{Generation, Generations, block_last, migrate, install}
use Rattle.race_model.specs.Worlds.{Actor, Entry, Caller, nth, callers_of}
use Rattle.race_model.specs.Worlds.Actor.{Instance, Client}
use Rattle.race_model.specs.Journals.{Has, MayClient, callers_after}
use Rattle.race_model.specs.History.{Fact, FoundSoFar, facts_of, found_after}
use Rattle.race_model.specs.Runs.{last_generation, CanMigrate}
use Rattle.race_model.specs.Openings.{Scenario, opening_generations, found_at_opening}
use Rattle.document_model.specs.Documents.{Doc}
use Rattle.document_model.specs.Registries.{Registry}
use Rattle.query_model.specs.Queries.{Query}
use Rattle.call_model.specs.Words.{Words}
use Rattle.call_model.specs.Calls.{Call, Answer}
use Rattle.call_model.specs.Steps.{called}
use Rattle.call_model.specs.Plans.Next.{Answers, Asks}
use Rattle.call_model.specs.Scripts.{Script, clients, first, next, last, own, replaced_where}
use Rattle.race_model.specs.Replies.{fits_reply}

-- one fact of a history: a change of the generations, or a call of a client, with the place of its deciding entry, that of its first entry, its client, its tag and its answer
pub data HistoryFact (A : Type 0) : Type 0 where
  Changed : Fact → HistoryFact A
  Called : (place read client tag : ℕ) → Answer A → HistoryFact A

-- this client
abbrev pub is_client : ℕ → Actor → Bool
is_client k (Instance i) = false
is_client k (Client j) = k == j

-- an entry of the call with this tag of this client
abbrev pub is_entry : {D Q : Type 0} → (client tag : ℕ) → Entry D Q → Bool
is_entry k tag e = is_client k e.actor && tag == e.tag

-- the entries of a call, heard or not, in order
unfoldable pub entries_of : {D Q : Type 0} → (client tag : ℕ) → List (Entry D Q) → List (Entry D Q)
entries_of k tag [] = []
entries_of k tag (e ∷ es) = if is_entry k tag e then e ∷ entries_of k tag es else entries_of k tag es

-- the place of its first entry, where the first of these entries has the place n
unfoldable pub first_place : {D Q : Type 0} → (client tag n : ℕ) → List (Entry D Q) → ℕ
first_place k tag n [] = n
first_place k tag n (e ∷ es) = if is_entry k tag e then n else first_place k tag (n + 1) es

-- the reply fits the request
abbrev pub Fits : {A F : Type 0} → Entry (Doc A) (Query F) → Type 0
Fits e = fits_reply (λ (q : Query _). q.limit) e.request e.reply ≡ true

-- these entries decide the call: each is its plan's next request with a fitting reply, and the last one gives the answer
abbrev pub DecidedBy : {A O F : Type 0} → Words A O F → Registry O → Call A → List (Entry (Doc A) (Query F)) → Answer A → Type 0
DecidedBy w reg call (e ∷ []) a = (e.request ≡ first w reg call) × Fits e × (next w reg call e.reply ≡ Answers a)
DecidedBy w reg call (e ∷ d ∷ []) a = (e.request ≡ first w reg call) × Fits e × (next w reg call e.reply ≡ Asks d.request) × Fits d × (a ≡ last w reg call e.reply d.reply)
DecidedBy w reg call _ a = ⊥

-- the call with this tag of this client
pub record IsCall {A O : Type 0} (scripts : List (Script A O)) (client tag : ℕ) (registry : Registry O) (call : Call A) : Type 0 where
  pub script : Script A O
  pub is_script : nth scripts client ≡ Some script
  pub is_registry : script.registry ≡ registry
  pub is_call : nth script.calls tag ≡ Some call

-- the last of these entries is the deciding entry of its call, with this answer
pub record Decides {A O F : Type 0} (w : Words A O F) (scripts : List (Script A O)) (client tag : ℕ) (entries : List (Entry (Doc A) (Query F))) (a : Answer A) : Type 0 where
  pub registry : Registry O
  pub call : Call A
  pub is_call : IsCall scripts client tag registry call
  pub decided : DecidedBy w registry call (entries_of client tag entries) a

-- the facts of an entry after those before it: its call's, where it decides it, and else those of its request
abbrev pub EntryHas : {A O F : Type 0} → Words A O F → (version_in : Text → Option Text) → (current : Text) → List (Script A O) → List (Entry (Doc A) (Query F)) → FoundSoFar → Entry (Doc A) (Query F) → Actor → List (HistoryFact A) → Type 0
EntryHas w version_in current scripts before f e (Instance i) facts = facts ≡ map Changed (facts_of current version_in f e.request e.reply)
EntryHas w version_in current scripts before f e (Client k) facts =
    ((a : Answer _) → Decides w scripts k e.tag (before ++ e ∷ []) a → facts ≡ Called f.place (first_place k e.tag 1 (before ++ e ∷ [])) k e.tag a ∷ [])
    × (((a : Answer _) → Decides w scripts k e.tag (before ++ e ∷ []) a → ⊥) → facts ≡ map Changed (facts_of current version_in f e.request e.reply))

-- the facts of a journal, in order of their places
unfoldable pub HistoryIs : {A O F : Type 0} → Words A O F → (version_in : Text → Option Text) → (current : Text) → List (Script A O) → (before : List (Entry (Doc A) (Query F))) → FoundSoFar → List (Entry (Doc A) (Query F)) → List (HistoryFact A) → Type 0
HistoryIs w version_in current scripts before f [] facts = facts ≡ []
HistoryIs w version_in current scripts before f (e ∷ es) facts =
    (here rest : List (HistoryFact _)) × (facts ≡ here ++ rest) × EntryHas w version_in current scripts before f e e.actor here
    × HistoryIs w version_in current scripts (before ++ e ∷ []) (found_after current f e.request e.reply) es rest

-- generations so far, each with the place after which they stood, newest first
abbrev pub Past : Type 0 → Type 0
Past D = List (ℕ × Generations D)

-- the generations as they stood before a place
unfoldable pub stood_before : {D : Type 0} → ℕ → Generations D → Past D → Generations D
stood_before place opening [] = opening
stood_before place opening (p ∷ past) = if nat_lt p.0 place then p.1 else stood_before place opening past

-- the step of a fact on the generations as they are
abbrev pub StepIs : {A O F : Type 0} → Words A O F → List (Settings (Doc A) (Query F)) → List (Script A O) → (opening : Generations (Doc A)) → Past (Doc A) → Generations (Doc A) → HistoryFact A → Generations (Doc A) → Type 0
StepIs w sets scripts opening past gs (Changed (Fact.Block place)) new = (g : Generation (Doc _)) × (last_generation gs ≡ Some g) × (g.blocked ≡ false) × (new ≡ block_last gs)
StepIs w sets scripts opening past gs (Changed (Fact.Migrate place target version)) new = (v : Settings (Doc _) (Query _)) × Has v sets × (v.target ≡ target) × CanMigrate v gs × (new ≡ migrate v gs)
StepIs w sets scripts opening past gs (Changed (Fact.Install place target version)) new = (v : Settings (Doc _) (Query _)) × Has v sets × (v.target ≡ target) × (gs ≡ []) × (new ≡ install v gs)
StepIs {O = O} w sets scripts opening past gs (Called place read k tag a) new =
    (registry : Registry O) × (call : Call _) × IsCall scripts k tag registry call
    × (a ≡ (called w registry call (own w registry (stood_before read opening past)) (own w registry gs)).1)
    × (new ≡ replaced_where (w.version_alias registry.version) (called w registry call (own w registry (stood_before read opening past)) (own w registry gs)).0 gs)

-- the place of a fact
abbrev pub place_of : {A : Type 0} → HistoryFact A → ℕ
place_of (Changed (Fact.Block place)) = place
place_of (Changed (Fact.Migrate place target version)) = place
place_of (Changed (Fact.Install place target version)) = place
place_of (Called place read k tag a) = place

-- the facts in order are a run of generations: one block of the last open one, one migration of the last one, blocked and clean, one install where there is none, and each call one step with its answer
unfoldable pub RunIs : {A O F : Type 0} → Words A O F → List (Settings (Doc A) (Query F)) → List (Script A O) → (opening : Generations (Doc A)) → Past (Doc A) → Generations (Doc A) → List (HistoryFact A) → Type 0
RunIs w sets scripts opening past gs [] = Unit {0}
RunIs w sets scripts opening past gs (fact ∷ facts) =
    (new : Generations (Doc _)) × StepIs w sets scripts opening past gs fact new × RunIs w sets scripts opening ((place_of fact, new) ∷ past) new facts

-- a client's entry is its plan's next request, with a fitting reply
abbrev pub EntryConforms : {A O F : Type 0} → Words A O F → List (Caller (Script A O)) → Entry (Doc A) (Query F) → Actor → Type 0
EntryConforms w callers e (Instance i) = Unit {0}
EntryConforms w callers e (Client k) = MayClient (clients w) e.how (nth callers k) e.tag e.request × Fits e

-- the clients after an entry
abbrev pub callers_past : {A O F : Type 0} → Words A O F → List (Caller (Script A O)) → Entry (Doc A) (Query F) → Actor → List (Caller (Script A O))
callers_past w callers e (Instance i) = callers
callers_past w callers e (Client k) = callers_after (clients w) callers k (nth callers k) e.how e.reply

-- each client's entries are the requests of its plans in order, with fitting replies; its tags count its calls; and nothing of it follows an entry that it didn't hear
unfoldable pub ClientsConform : {A O F : Type 0} → Words A O F → List (Caller (Script A O)) → List (Entry (Doc A) (Query F)) → Type 0
ClientsConform w callers [] = Unit {0}
ClientsConform w callers (e ∷ es) = EntryConforms w callers e e.actor × ClientsConform w (callers_past w callers e e.actor) es

-- a journal is legal: each client's entries are as they should, and the facts in order are a run of generations from the opening's, each call with its answer
abbrev pub IsLegal : {A O F : Type 0} → Words A O F → (version_in : Text → Option Text) → Scenario (Doc A) (Query F) (Script A O) → List (Entry (Doc A) (Query F)) → Type 0
IsLegal w version_in s journal =
    ClientsConform w (callers_of s.scripts) journal
    × (facts : List (HistoryFact _)) × HistoryIs w version_in s.current s.scripts [] (found_at_opening s.opening) journal facts
    × RunIs w s.sets s.scripts (opening_generations s.opening) [] (opening_generations s.opening) facts
