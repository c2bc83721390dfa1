-- How the logic stores rows.
use Rattle.std.specs.Prelude.{ℕ, refl}
use Rattle.std.specs.Coded.{Coded, code_by, coded×, coded_ℕ, coded_list}
use Rattle.race_model.specs.Stores.{Cell, Rows}
use Rattle.document_model.specs.Documents.{Doc}
use Rattle.so_js.specs.declared.js.Js.{Js}
use Rattle.saved_doc.specs.Trees.{doc_code}

abbrev cell_code : Coded (Cell (Doc Js))
cell_code = code_by (ℕ × Doc Js) (coded× coded_ℕ doc_code) (λ c. (c.seq, c.doc)) (λ p. record { seq = p.0; doc = p.1 }) (λ c. refl)

-- rows are stored as pairs of a raw id, and of a number and a document
abbrev pub rows_code : Coded (Rows (Doc Js))
rows_code = coded_list (coded× (coded_list coded_ℕ) cell_code)
