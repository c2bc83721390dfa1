-- What queries, rows and filters of the code are in the definitions.
use Rattle.std.specs.Prelude.{List, map, option_map}
use Rattle.base_model.specs.Keyed.{Text}
use Rattle.race_model.specs.Stores.{Cell, Rows}
use Rattle.space_scope.specs.Spaces.{space_text}
use Rattle.document_model.specs.Documents.{Doc}
use Rattle.so_js.specs.declared.js.Js.{Js}
use Rattle.saved_doc.specs.declared.doc.Row.{Row}
use Rattle.kql_filter.specs.Filters.{meaning_of}
use Rattle.query_model.specs.Queries.{Query, Holds}
use Rattle.doc_query.specs.declared.query.Query.{Query as Asked}

-- a query, with its filter as the filter's text
abbrev pub query_of : Asked → Query Text
query_of q = record {
  types = q.types;
  not_types = q.not_types;
  space = option_map space_text q.space;
  reference = q.reference;
  origin = q.origin;
  outdated = q.outdated;
  after = q.after;
  sort = q.sort;
  descending = q.descending;
  skip = q.skip;
  limit = q.take;
  filter = q.filter;
}

-- a row under its raw id
abbrev pub cell_of : Row → Text × Cell (Doc Js)
cell_of r = (r.raw, record { seq = r.seq; doc = r.doc })

abbrev pub cells_of : List Row → Rows (Doc Js)
cells_of rows = map cell_of rows

-- a filter holds of an object as its text says
abbrev pub holds_of : Holds Js Text
holds_of = meaning_of
