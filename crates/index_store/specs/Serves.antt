-- The reply that an answer of the store stands for.
use Rattle.std.specs.Prelude.{List, map, Option}
use Rattle.std.specs.Option.{option_map}
use Rattle.base_model.specs.Keyed.{Text}
use Rattle.document_model.specs.Documents.{Doc}
use Rattle.so_js.specs.declared.js.Js.{Js}
use Rattle.race_model.specs.Stores.{Cell, Reply, Refusal}
use Rattle.saved_doc.specs.declared.doc.Row.{Row}
use Rattle.doc_table.specs.Tables.{entry_of, entries, item_of}
use Rattle.index_store.specs.declared.served.Served.{Served}
use Rattle.index_store.specs.declared.served.Served.TheVariants.{Done, Pit, Rows, Found, Items, Exists, NoIndex, NotBlocked, NoPit, Blocked}

-- for each raw id its row or none
abbrev pub found_of : List (Option Row) → List (Option (Text × Cell (Doc Js)))
found_of rows = map (option_map entry_of) rows

abbrev pub reply_of : Served → Reply (Doc Js)
reply_of Done = Reply.Done
reply_of (Pit number) = Reply.Pit number
reply_of (Rows selected) = Reply.Selected selected.total (entries selected.rows)
reply_of (Found rows) = Reply.Found (found_of rows)
reply_of (Items items) = Reply.Items (map item_of items)
reply_of (Exists name source) = Reply.Refused (Refusal.Exists name source)
reply_of (NoIndex name) = Reply.Refused (Refusal.NoIndex name)
reply_of (NotBlocked name) = Reply.Refused (Refusal.NotBlocked name)
reply_of (NoPit number) = Reply.Refused (Refusal.NoPit number)
reply_of (Blocked name) = Reply.Refused (Refusal.Blocked name)
