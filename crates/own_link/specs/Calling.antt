-- A call on a store that nobody shares.
use Rattle.std.specs.Prelude.{◌≡◌, ℕ, ◌-◌, length}
use Rattle.base_model.specs.Keyed.{Text}
use Rattle.race_model.specs.Generations.{Generation}
use Rattle.race_model.specs.Stores.{serve}
use Rattle.document_model.specs.Documents.{Doc}
use Rattle.document_model.specs.Registries.{Registry}
use Rattle.query_model.specs.Queries.{select}
use Rattle.so_js.specs.declared.js.Js.{Js}
use Rattle.transform_ops.specs.declared.op.Op.{Op}
use Rattle.raw_id.specs.IndexNames.{version_alias}
use Rattle.doc_query.specs.Mapped.{holds_of}
use Rattle.store_words.specs.Serving.{Store}
use Rattle.store_core.specs.Journals.{Journaled}
use Rattle.call_model.specs.Calls as calls
use Rattle.call_model.specs.Calls.Call.{BulkCreating}
use Rattle.call_model.specs.Plans.{Next}
use Rattle.call_model.specs.Plans.Next.{Answers, Asks}
use Rattle.call_model.specs.Steps.{Outcome, call_step}
use Rattle.call_model.specs.Scripts.{first, next, with_table}
use Rattle.call_laws.specs.Meanings.{Shows, then_on}
use Rattle.call_words.specs.Product.{product_words}

-- the store has this generation, under the alias of the registry's version
pub record Holds (reg : Registry Op) (st : Store) (g : Generation (Doc Js)) : Type 0 where
  pub shows : Shows st g
  pub alias : g.alias ≡ version_alias reg.version

-- the step of one thread that a call is on a generation
abbrev pub step_on : Registry Op → Generation (Doc Js) → calls.Call Js → Outcome Js
step_on reg g call = call_step product_words reg g.blocked g.table call

-- the generation after the call
abbrev pub stepped : Registry Op → Generation (Doc Js) → calls.Call Js → Generation (Doc Js)
stepped reg g call = with_table g (then_on (step_on reg g call).0 g.table)

-- how many requests a call makes: another where the first reply leads to one
abbrev pub requests_over : Next Js Text → ℕ
requests_over (Answers answer) = 1
requests_over (Asks ask) = 2

-- how many requests a call makes on a store
unfoldable pub requests_on : Registry Op → Store → calls.Call Js → ℕ
requests_on reg st call = requests_over (next product_words reg call (serve (select holds_of) st (first product_words reg call)).1)

-- how many entries the journal has room for
abbrev pub room : Journaled → ℕ
room core = core.limit - length core.journal
