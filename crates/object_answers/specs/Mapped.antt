-- What targets and rows of the code are in the definitions.
use Rattle.std.specs.Prelude.{List, map, Option, option_map}
use Rattle.base_model.specs.Keyed.{Text}
use Rattle.race_model.specs.Stores.{Cell}
use Rattle.document_model.specs.Documents.{Doc}
use Rattle.so_js.specs.declared.js.Js.{Js}
use Rattle.saved_doc.specs.declared.doc.Row.{Row}
use Rattle.doc_query.specs.Mapped.{cell_of}
use Rattle.call_model.specs.Steps as model
use Rattle.call_model.specs.Plans as plans
use Rattle.call_model.specs.Steps.Look.{Refuses, At}
use Rattle.object_answers.specs.declared.looking.Look.{Look}
use Rattle.object_answers.specs.declared.looking.Look.TheVariants as look

abbrev pub look_of : Look → model.Look
look_of (look.Refuses refusal) = Refuses refusal
look_of (look.At target) = At target

-- rows that were found, under their raw ids
abbrev pub found_of : List (Option Row) → List (Option (Text × Cell (Doc Js)))
found_of rows = map (option_map cell_of) rows

-- the number and document of a row that was found
abbrev pub row_of : Option Row → Option (Cell (Doc Js))
row_of row = plans.cell_of (option_map cell_of row)
