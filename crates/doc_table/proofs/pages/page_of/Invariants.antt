use Rattle.std.proofs.Common.{◌-◌, ◌≤◌, length, take, drop}
use Rattle.doc_table.specs.RowLists.{Each}
use Rattle.doc_table.specs.Place.{IsBelow, IsAbove}
use Rattle.doc_table.specs.Pages.{all_rows}
use Rattle.doc_table.proofs.pages.page_of.Given as goal

abbrev pub invariant-loop-low : goal.invariant-loop-low
invariant-loop-low l = (l.low ≤ l.high) × (l.high ≤ length l.pages) × Each (IsBelow l.raw) (all_rows (take (l.low - 1) l.pages)) × Each (IsAbove l.raw) (all_rows (drop l.high l.pages))

abbrev pub decreases-loop-low : goal.decreases-loop-low
decreases-loop-low l = l.high - l.low
