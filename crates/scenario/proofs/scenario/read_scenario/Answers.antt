use Rattle.std.proofs.Common.{◌≡◌, ◌∙◌, Err, ap, sym, subst, rules, arith}
use Rattle.std.specs.Io.KnownBytes.{prepend_known}
use Rattle.std.specs.Prelude.{IsErrAnd}
use Rattle.scenario.specs.declared.scenario.ScenarioError.TheVariants.{ReadFault}
use Rattle.scenario.specs.Scenario.{of_read}
use Rattle.scenario.proofs.FaultSteps.{advances_by_line, fault_of_read}
use Rattle.scenario.proofs.ScenarioSteps.{scenario_goes_on, scenario_ends}
use Rattle.scenario.proofs.scenario.read_scenario.Goals as goal

pub returns-in-End-clause-told : goal.returns-in-End-clause-told
returns-in-End-clause-told g c =
    let l = c.loop-scenario in
    let after = c.read_line.new in
    scenario_ends (g.S.Source.left c.args.source.now) (prepend_known l.lines.ahead (g.S.Source.left l.source)) (g.S.Source.left after.source) after.lines.ahead l.lines.taken after.lines.taken l.at l.scenario l.invariant.0
    (rw c.in-End.is at c.in_ok-line.ensures.next)

pub take_numbered-requires : goal.take_numbered-requires
take_numbered-requires g c =
    let known = c.loop-scenario.invariant in
    omega (arith, known.4, known.6, known.7)

pub loop-scenario-preserved : goal.loop-scenario-preserved
loop-scenario-preserved g c =
    let l = c.loop-scenario in
    let after = c.read_line.new in
    let left = g.S.Source.left in
    let counted = rw c.in-Text.is at c.in_ok-line.ensures.counted in
    let taken = rw c.as_slice.ensures at c.in_ok-scenario-in-Text.ensures.exact in (
      scenario_goes_on (left c.args.source.now) (prepend_known l.lines.ahead (left l.source)) (prepend_known after.lines.ahead (left after.source)) l.lines.taken after.lines.taken l.at l.scenario c.in_ok-scenario-in-Text.scenario c.in-Text.line
          l.invariant.0 (rw c.in-Text.is at c.in_ok-line.ensures.next) taken,
      advances_by_line (left c.args.source.now) (prepend_known l.lines.ahead (left l.source)) (prepend_known after.lines.ahead (left after.source)) l.lines.taken after.lines.taken l.at l.scenario c.in_ok-scenario-in-Text.scenario c.in-Text.line
          counted.1 l.invariant.1 (rw c.in-Text.is at c.in_ok-line.ensures.bytes) (rw c.in-Text.is at c.in_ok-line.ensures.next) taken,
      search rules,
      omega arith,
      omega (arith, c.in_ok-scenario-in-Text.ensures.next),
      omega (arith, c.in_ok-scenario-in-Text.ensures.rows),
      omega (arith, counted),
      counted.1,
      c.in_ok-scenario-in-Text.ensures.few_objects l.invariant.8,
    )

pub returns-in_err-line-clause-fault_first : goal.returns-in_err-line-clause-fault_first
returns-in_err-line-clause-fault_first g c is =
    let l = c.loop-scenario in
    let after = c.read_line.new in
    let left = g.S.Source.left in
    let refused = c.in_err-line.field-0.0 in
    let came : ReadFault ≡ of_read refused = subst (λ r. IsErrAnd r (λ e. e ≡ of_read refused)) is c.from_residual.ensures.1 in
    fault_of_read (left c.args.source.now) (prepend_known l.lines.ahead (left l.source)) (left after.source) l.lines.taken after.lines.taken l.at l.scenario after.lines.ahead refused l.invariant.1 c.in_err-line.ensures.bytes
    (λ e. c.read_line.ensures.ahead (c.in_err-line.was ∙ ap Err e)) (sym came)
