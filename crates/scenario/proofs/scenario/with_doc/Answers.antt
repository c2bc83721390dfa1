use Rattle.std.proofs.Common.{◌≤◌, ◌+◌, length, sym, subst}
use Rattle.scenario.proofs.TableSteps.{next_after_create, rows_after_create}
use Rattle.scenario.proofs.scenario.with_doc.Goals as goal

pub returns-clause-next : goal.returns-clause-next
returns-clause-next c =
    let t = c.args.scenario.table in
    subst (λ p. p.0.next ≤ t.next + 1) (sym c.in_ok-create.ensures.ok) (next_after_create t c.args.raw c.in_ok-new.field-0)

pub returns-clause-rows : goal.returns-clause-rows
returns-clause-rows c =
    let t = c.args.scenario.table in
    subst (λ p. length p.0.rows ≤ length t.rows + 1) (sym c.in_ok-create.ensures.ok) (rows_after_create t c.args.raw c.in_ok-new.field-0)
