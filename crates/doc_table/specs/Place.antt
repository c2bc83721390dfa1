-- Where a raw id stands among rows.
use Rattle.std.specs.Prelude.{◌≡◌, ℕ, ◌+◌, ◌<◌, ◌≤◌, List, ◌++◌, take, drop, length, slice_get, Option, None, Result, Ok, Err, IfSome}
use Rattle.std.specs.Option.{option_to_list}
use Rattle.std.specs.declared.cmp.Ordering.TheVariants.{Less, Equal, Greater}
use Rattle.saved_doc.specs.declared.doc.Row.{Row}
use Rattle.doc_table.specs.RowLists.{order, Each}

abbrev pub IsBelow : List ℕ → Row → Type 0
IsBelow r x = order x.raw r ≡ Less

abbrev pub IsAt : List ℕ → Row → Type 0
IsAt r x = order x.raw r ≡ Equal

abbrev pub IsAbove : List ℕ → Row → Type 0
IsAbove r x = order x.raw r ≡ Greater

-- the rows are some below r, the row of r if there is one, and some above r
pub record Splits (r : List ℕ) (rows low : List Row) (here : Option Row) (high : List Row) : Type 0 where
  pub whole : rows ≡ low ++ (option_to_list here ++ high)
  pub lower : Each (IsBelow r) low
  pub same : IfSome here (IsAt r)
  pub higher : Each (IsAbove r) high

-- r's row is at an index, or would be
abbrev pub IsPlace : List ℕ → List Row → Result ℕ ℕ → Type 0
IsPlace r rows (Ok i) = (i < length rows) × Splits r rows (take i rows) (slice_get rows i) (drop (i + 1) rows)
IsPlace r rows (Err i) = (i ≤ length rows) × Splits r rows (take i rows) None (drop i rows)
