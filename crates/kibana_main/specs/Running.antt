-- What the calls of an input answer, one after another on one store.
use Rattle.std.specs.Prelude.{ℕ, ◌-◌, nat_le, if◌then◌else◌, List, [], ◌∷◌, false}
use Rattle.std.specs.List.{flat_map}
use Rattle.race_model.specs.Generations.{Generation}
use Rattle.race_model.specs.Stores.{Table, renumbered}
use Rattle.document_model.specs.Documents.{Doc}
use Rattle.document_model.specs.Registries.{Registry}
use Rattle.so_js.specs.declared.js.Js.{Js}
use Rattle.transform_ops.specs.declared.op.Op.{Op}
use Rattle.raw_id.specs.IndexNames.{current_alias, version_alias, target}
use Rattle.store_words.specs.Serving.{Store}
use Rattle.store_core.specs.Engines.{opened_with}
use Rattle.call_model.specs.Steps.{call_step}
use Rattle.call_model.specs.Scripts.{performed}
use Rattle.call_laws.specs.Meanings.{then_on}
use Rattle.call_words.specs.Mapped.{call_of}
use Rattle.call_words.specs.Product.{product_words}
use Rattle.call_words.specs.Told.{answer_with_token}
use Rattle.call_words.specs.declared.answers.Answer.{Answer}
use Rattle.own_link.specs.Calling.{requests_on}
use Rattle.report.specs.Answers.{answer_line_js}
use Rattle.report.specs.Lines.{line_of}
use Rattle.report.specs.declared.answers.AnswerAt.TheVariants.{Input}
use Rattle.scenario.specs.declared.scenario.ApplyAsk.{ApplyAsk}

-- ---- the answers

-- an answer, and the number of its call's line
pub record Answered : Type 0 where
  pub at : ℕ
  pub answer : Answer

-- the answers of calls, one after another: each is a step of one thread on the table that those before leave
abbrev pub answers_from : Registry Op → Table (Doc Js) → List ApplyAsk → List Answered
answers_from reg t [] = []
answers_from reg t (a ∷ asks) =
    record { at = a.at; answer = answer_with_token (call_step product_words reg false t (call_of a.call)).1 }
    ∷ answers_from reg (then_on (call_step product_words reg false t (call_of a.call)).0 t) asks

-- the lines of answers
abbrev pub answers_text : List Answered → List ℕ
answers_text = flat_map (λ a. line_of (answer_line_js (Input a.at) a.answer))

-- ---- the store

-- the documents of an input, numbered 0, 1, .. by raw id, in the open index of the registry's version, which the version's alias and the current alias name
abbrev pub opening_store : Registry Op → Table (Doc Js) → Store
opening_store reg t =
    opened_with
    (record { name = target reg.version; table = renumbered t } ∷ [])
    (record { alias = current_alias; index = target reg.version } ∷ record { alias = version_alias reg.version; index = target reg.version } ∷ [])

-- how many entries the journal may hold
abbrev pub journal_limit : ℕ
journal_limit = 4000000

-- the calls before the first of which a journal with room for so many entries refuses a request
abbrev pub within : (room : ℕ) → Registry Op → Store → List ApplyAsk → List ApplyAsk
within room reg st [] = []
within room reg st (a ∷ asks) =
    if nat_le (requests_on reg st (call_of a.call)) room
    then a ∷ within (room - requests_on reg st (call_of a.call)) reg (performed product_words reg st (call_of a.call)).0 asks
    else []

-- ---- for private clauses

-- the generation of the registry's version with this table
abbrev pub generation_of : Registry Op → Table (Doc Js) → Generation (Doc Js)
generation_of reg t = record { alias = version_alias reg.version; index = target reg.version; blocked = false; table = t }

-- the line of a call's answer on a table
abbrev pub line_on : Registry Op → Table (Doc Js) → ApplyAsk → List ℕ
line_on reg t a = line_of (answer_line_js (Input a.at) (answer_with_token (call_step product_words reg false t (call_of a.call)).1))

-- the table that a call leaves
abbrev pub table_after : Registry Op → Table (Doc Js) → ApplyAsk → Table (Doc Js)
table_after reg t a = then_on (call_step product_words reg false t (call_of a.call)).0 t
