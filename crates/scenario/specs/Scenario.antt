-- What an input says, line by line.
use Rattle.std.specs.Prelude.{◌≡◌, ◌⊎◌, true, is_ok, ℕ, ◌+◌, ◌==◌, List, [], ◌∷◌, ◌++◌, length, not, is_some, Option, Some, None, Result, Ok, Err, if◌then◌else◌, ⊤, codes}
use Rattle.std.specs.Io.KnownBytes.{IsAtEnd}
use Rattle.base_model.specs.Keyed.{Text, at}
use Rattle.call_lines.specs.Reading.{Read, and_then, accepted, needed, alone}
use Rattle.call_lines.specs.Parts.{text_in}
use Rattle.call_lines.specs.declared.error.LineError.{LineError}
use Rattle.call_lines.specs.declared.error.LineError.TheVariants as line_error
use Rattle.call_words.specs.declared.calls.Call.{Call}
use Rattle.document_model.specs.Documents.{Doc}
use Rattle.document_model.specs.Registries.{Registry}
use Rattle.race_model.specs.Stores.{empty_table, write}
use Rattle.race_model.specs.Stores.Write.{Create}
use Rattle.saved_doc.specs.Trees.{is_object}
use Rattle.so_js.specs.declared.js.Js.{Js}
use Rattle.transform_ops.specs.declared.op.Op.{Op}
use Rattle.wire_io.specs.Answers.{IsPart}
use Rattle.wire_io.specs.Lines.{Stream, line, ended, line_too_long, input_too_long, stream_from, stream_of}
use Rattle.wire_io.specs.declared.fault.InputKind.TheVariants as kind
use Rattle.wire_io.specs.declared.fault.Which.TheVariants as which
use Rattle.wire_io.specs.declared.lines.ReadError.{ReadError}
use Rattle.wire_io.specs.declared.lines.ReadError.TheVariants as read
use Rattle.scenario.specs.declared.line_kind.LineKind.{LineKind}
use Rattle.scenario.specs.declared.line_kind.LineKind.TheVariants as line_kind
use Rattle.scenario.specs.declared.scenario.Scenario.{Scenario}
use Rattle.scenario.specs.declared.scenario.ScenarioError.{ScenarioError}
use Rattle.scenario.specs.declared.scenario.ScenarioError.TheVariants.{Memory, ReadFault, BadInput, Limit}
use Rattle.scenario.specs.LineKinds.{line_kind_of, is_unbuilt, stands_in_apply}
use Rattle.scenario.specs.Lines.{tree_of_line, registry_of, call_of, raw_in, doc_of}

-- before the first line
abbrev pub nothing : Scenario
nothing = record { registry = None; table = empty_table; asks = [] }

-- one registry, as no other is there
abbrev pub with_registry : Scenario → Registry Op → Read Scenario
with_registry s registry = if is_some s.registry then Err kind.DuplicateRegistry else Ok (record { registry = Some registry; table = s.table; asks = s.asks })

-- a document more, with the next number
abbrev pub with_doc : Scenario → Text → Doc Js → Scenario
with_doc s raw doc = record { registry = s.registry; table = (write s.table (Create raw doc)).0; asks = s.asks }

-- the raw id, the document, a raw id that was there before, and last a member that no doc line has: the first of these that is refused counts
abbrev pub with_doc_line : Scenario → Js → Read Scenario
with_doc_line s js =
    and_then (needed raw_in (codes "raw") js) (λ raw.
    and_then (needed doc_of (codes "doc") js) (λ doc.
    and_then (accepted (not (is_some (at raw s.table.rows))) doc kind.DuplicateDoc) (λ doc.
    alone (codes "line" ∷ codes "raw" ∷ codes "doc" ∷ []) js (with_doc s raw doc))))

-- the calls in their order
abbrev pub with_call : Scenario → ℕ → Call → Scenario
with_call s at call = record { registry = s.registry; table = s.table; asks = s.asks ++ record { at = at; call = call } ∷ [] }

-- the scenario with a line of this kind more
abbrev pub with_kind : Scenario → ℕ → LineKind → Js → Read Scenario
with_kind s at line_kind.Registry js = and_then (registry_of js) (with_registry s)
with_kind s at line_kind.Doc js = with_doc_line s js
with_kind s at line_kind.Call js = and_then (call_of js) (λ call. Ok (with_call s at call))
with_kind s at _ js = Err kind.Unplaced

-- the same, where the line may stand here
abbrev pub with_placed : Scenario → ℕ → LineKind → Js → Read Scenario
with_placed s at k js =
    if is_unbuilt k then Err kind.NotBuilt else
    if stands_in_apply k (is_some s.registry) (not (length s.asks == 0)) then with_kind s at k js else
    Err kind.Unplaced

-- the scenario with the line of a tree more
abbrev pub with_tree : Scenario → ℕ → Js → Read Scenario
with_tree s at js =
    if is_object js then and_then (needed text_in (codes "line") js) (λ word. and_then (line_kind_of word) (λ k. with_placed s at k js))
    else Err kind.NotObject

-- the scenario with the `at`-th line more; an empty line says nothing
abbrev pub with_line : Scenario → ℕ → List ℕ → Read Scenario
with_line s at bytes = if length bytes == 0 then Ok s else and_then (tree_of_line bytes) (with_tree s at)

-- a refusal has the number of its line
abbrev pub placed : ℕ → Read Scenario → Result Scenario ScenarioError
placed at (Ok s) = Ok s
placed at (Err k) = Err (BadInput at k)

-- `n` lines have made s, and these come
abbrev pub scenario_from : Stream → ℕ → Result Scenario ScenarioError → Result Scenario ScenarioError
scenario_from stream n (Err e) = Err e
scenario_from (line bytes more) n (Ok s) = scenario_from more (n + 1) (placed (n + 1) (with_line s (n + 1) bytes))
scenario_from ended n (Ok s) = Ok s
scenario_from line_too_long n (Ok s) = Err (Limit which.Line)
scenario_from input_too_long n (Ok s) = Err (Limit which.Input)

-- what an input says, or the first cause of a refusal
abbrev pub scenario_of : List ℕ → Result Scenario ScenarioError
scenario_of input = scenario_from (stream_of input) 0 (Ok nothing)

-- the refusals of an input, from those of its lines
abbrev pub of_read : ReadError → ScenarioError
of_read read.Memory = Memory
of_read read.ReadFault = ReadFault
of_read read.LineTooLong = Limit which.Line
of_read read.InputTooLong = Limit which.Input

abbrev pub of_line : ℕ → LineError → ScenarioError
of_line at line_error.Memory = Memory
of_line at (line_error.Refused k) = BadInput at k

abbrev IsRefused : ScenarioError → Result Scenario ScenarioError → Type 0
IsRefused Memory said = ⊤
IsRefused ReadFault said = ⊤
IsRefused (BadInput at k) said = said ≡ Err (BadInput at k)
IsRefused (Limit limit) said = said ≡ Err (Limit limit)

-- the call gave what the input says, unless memory ran out or a read failed
abbrev pub GivesScenario : Result Scenario ScenarioError → Result Scenario ScenarioError → Type 0
GivesScenario (Ok s) said = said ≡ Ok s
GivesScenario (Err e) said = IsRefused e said

-- a line was taken, unless memory ran out
abbrev IsRefusedLine : ScenarioError → Result Scenario ScenarioError → Type 0
IsRefusedLine Memory said = ⊤
IsRefusedLine ReadFault said = ⊥
IsRefusedLine (BadInput at k) said = said ≡ Err (BadInput at k)
IsRefusedLine (Limit limit) said = ⊥

abbrev pub TakesLine : Result Scenario ScenarioError → Result Scenario ScenarioError → Type 0
TakesLine (Ok s) said = said ≡ Ok s
TakesLine (Err e) said = IsRefusedLine e said

abbrev LeavesNothing : Option (List ℕ) → Result Scenario ScenarioError → Type 0
LeavesNothing new (Ok s) = IsAtEnd new
LeavesNothing new (Err e) = ⊤

-- a source that told its bytes was read as they say, and to its end where a scenario came
abbrev pub ReadsScenario : Option (List ℕ) → Option (List ℕ) → Result Scenario ScenarioError → Type 0
ReadsScenario None new result = ⊤
ReadsScenario (Some input) new result = GivesScenario result (scenario_of input) × LeavesNothing new result

-- no line, or lines that newlines end
abbrev pub AreEnded : List ℕ → Type 0
AreEnded lines = (lines ≡ []) ⊎ ((more : List ℕ) × (lines ≡ more ++ 10 ∷ []))

-- What came before a failed read is lines that are all accepted, and a part of a line within the limits.
pub record AcceptsFront (input left lines part : List ℕ) : Type 0 where
  pub bytes : input ≡ lines ++ (part ++ left)
  pub ended : AreEnded lines ⊎ (part ++ left ≡ [])
  pub accepted : is_ok (scenario_of lines) ≡ true
  pub within : IsPart (length lines) part

-- a failed read stands before each refusal of known bytes
abbrev pub FaultIsFirst : Option (List ℕ) → Option (List ℕ) → Type 0
FaultIsFirst None left = ⊤
FaultIsFirst (Some input) None = ⊥
FaultIsFirst (Some input) (Some left) = (lines part : List ℕ) × AcceptsFront input left lines part

-- ---- for private clauses: `n` lines have made s, and the rest makes the whole

abbrev pub Continues : Option (List ℕ) → ℕ → Option (List ℕ) → ℕ → Scenario → Type 0
Continues None taken now n s = ⊤
Continues (Some input) taken None n s = ⊥
Continues (Some input) taken (Some rest) n s = scenario_from (stream_from taken [] rest) n (Ok s) ≡ scenario_of input
