-- The table that rows and a next number stand for, and what its calls say.
use Rattle.std.specs.Prelude.{◌≢◌, ℕ, ◌<◌, Bool, true, List, map, Option, Some, None, refl}
use Rattle.std.specs.List.{filter}
use Rattle.std.specs.Option.{option_map}
use Rattle.std.specs.Coded.{Coded, code_by, coded×, coded_ℕ, coded_list}
use Rattle.base_model.specs.Keyed.{Text, at, text_lt}
use Rattle.document_model.specs.Documents.{Doc}
use Rattle.race_model.specs.Sorted.{IsSorted}
use Rattle.race_model.specs.Stores.{Cell, Rows, Table}
use Rattle.race_model.specs.Stores as stores
use Rattle.saved_doc.specs.Trees.{doc_code}
use Rattle.saved_doc.specs.declared.doc.Row.{Row}
use Rattle.so_js.specs.declared.js.Js.{Js}
use Rattle.doc_table.specs.RowLists.{Each, Pairwise}
use Rattle.doc_table.specs.declared.writes.Item.{Item}
use Rattle.doc_table.specs.declared.writes.Item.TheVariants.{Written, Exists, Conflict, NotFound}
use Rattle.doc_table.specs.declared.writes.Write.{Write}
use Rattle.doc_table.specs.declared.writes.Write.TheVariants.{Create, Put, Delete}

-- the number and the document of a row
abbrev pub cell_of : Row → Cell (Doc Js)
cell_of x = record { seq = x.seq; doc = x.doc }

-- a row under its raw id
abbrev pub entry_of : Row → Text × Cell (Doc Js)
entry_of x = (x.raw, cell_of x)

abbrev pub entries : List Row → Rows (Doc Js)
entries rows = map entry_of rows

-- the table of these rows and this next number
abbrev pub table_of : List Row → ℕ → Table (Doc Js)
table_of rows next = record { rows = entries rows; next = next }

-- the raw ids rise, and the numbers are all different and all below the next one
pub record IsTable (t : Table (Doc Js)) : Type 0 where
  pub sorted : IsSorted t.rows
  pub apart : Pairwise (λ a b. a.1.seq ≢ b.1.seq) t.rows
  pub fresh : Each (λ a. a.1.seq < t.next) t.rows

-- ---- the records of a write and of its result

abbrev pub item_of : Item → stores.Item
item_of (Written n) = stores.Item.Written n
item_of (Exists n) = stores.Item.Exists n
item_of (Conflict n) = stores.Item.Conflict n
item_of NotFound = stores.Item.NotFound

abbrev pub write_of : Write → stores.Write (Doc Js)
write_of (Create raw doc) = stores.Write.Create raw doc
write_of (Put raw doc expect) = stores.Write.Put raw doc expect
write_of (Delete raw expect) = stores.Write.Delete raw expect

-- ---- what is read

-- the number of a row, if there is one
abbrev pub number_in : Option (Cell (Doc Js)) → Option ℕ
number_in row = option_map (λ c. c.seq) row

-- the number under a raw id
abbrev pub number : Table (Doc Js) → Text → Option ℕ
number t raw = number_in (at raw t.rows)

-- whether an entry is above a raw id, if one is given
abbrev pub is_above : Option Text → Text × Cell (Doc Js) → Bool
is_above None a = true
is_above (Some raw) a = text_lt raw a.0

-- the rows above a raw id, all where none is given
abbrev pub rows_above : Option Text → Rows (Doc Js) → Rows (Doc Js)
rows_above raw rows = filter (is_above raw) rows

-- ---- how the logic stores a table

abbrev cell_code : Coded (Cell (Doc Js))
cell_code = code_by (ℕ × Doc Js) (coded× coded_ℕ doc_code) (λ c. (c.seq, c.doc)) (λ p. record { seq = p.0; doc = p.1 }) (λ _. refl)

abbrev pub rows_code : Coded (Rows (Doc Js))
rows_code = coded_list (coded× (coded_list coded_ℕ) cell_code)

abbrev pub table_code : Coded (Table (Doc Js))
table_code = code_by (Rows (Doc Js) × ℕ) (coded× rows_code coded_ℕ) (λ t. (t.rows, t.next)) (λ p. record { rows = p.0; next = p.1 }) (λ _. refl)
