use Rattle.std.proofs.Common.{◌≡◌, ◌≤◌, ◌-◌, length, false}
use Rattle.std.specs.Io.KnownBytes.{prepend_known}
use Rattle.call_words.specs.Limits.{HasFewObjects}
use Rattle.doc_table.specs.RowLists.{Each}
use Rattle.scenario.specs.Scenario.{Continues}
use Rattle.scenario.proofs.FaultSteps.{Advances}
use Rattle.scenario.proofs.scenario.read_scenario.Given as goal

abbrev pub invariant-loop-scenario : goal.invariant-loop-scenario
invariant-loop-scenario g l =
    Continues (g.S.Source.left l.initial.source) l.lines.taken (prepend_known l.lines.ahead (g.S.Source.left l.source)) l.at l.scenario
    × Advances (g.S.Source.left l.initial.source) l.lines.taken (prepend_known l.lines.ahead (g.S.Source.left l.source)) l.at l.scenario
    × (l.lines.failed ≡ false) × (g.S.Source.faults l.initial.source ≤ g.S.Source.faults l.source) × (l.scenario.table.next ≤ l.at) × (length l.scenario.table.rows ≤ l.at) × (l.at ≤ l.lines.taken) × (l.lines.taken ≤ 26214400)
    × Each (λ a. HasFewObjects a.call) l.scenario.asks

abbrev pub decreases-loop-scenario : goal.decreases-loop-scenario
decreases-loop-scenario g l = 26214400 - l.lines.taken
