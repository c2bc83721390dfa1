use Rattle.std.proofs.Common.{◌≤◌, ◌-◌, length, take, drop}
use Rattle.doc_table.specs.RowLists.{Each}
use Rattle.doc_table.specs.Place.{IsBelow, IsAbove}
use Rattle.doc_table.proofs.marked.place_by_halves.Given as goal

abbrev pub invariant-loop-low : goal.invariant-loop-low
invariant-loop-low l = (l.low ≤ l.high) × (l.high ≤ length l.rows) × Each (IsBelow l.raw) (take l.low l.rows) × Each (IsAbove l.raw) (drop l.high l.rows)

abbrev pub decreases-loop-low : goal.decreases-loop-low
decreases-loop-low l = l.high - l.low
