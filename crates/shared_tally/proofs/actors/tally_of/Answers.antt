use Rattle.std.proofs.Common.{List, subst, ap, ◌∙◌}
use Rattle.std.specs.List.{AllZip}
use Rattle.turn_gate.specs.Passes.{PassState}
use Rattle.shared_tally.specs.Tallied.{Tallied}
use Rattle.shared_tally.specs.declared.actors.Job.{Job}
use Rattle.shared_tally.specs.Jobs.{DoesJob, split_times, JoinsAll}
use Rattle.shared_tally.proofs.Joins.{first_of_gate, are_of_zip, jobs_of_gate, tallied}
use Rattle.shared_tally.proofs.actors.tally_of.Goals as goal

pub run_all-requires-after_bounds : goal.run_all-requires-after_bounds
run_all-requires-after_bounds g c κs within =
    jobs_of_gate c.in_ok-gate.gate c.in_ok-gate.pass 0 c.args.lists.items c.in_ok-jobs.jobs.items (first_of_gate c.in_ok-gate.gate c.in_ok-gate.pass c.in_ok-gate.ensures.pass) c.in_ok-jobs.ensures.jobs

pub join_all-requires-clause-each : goal.join_all-requires-clause-each
join_all-requires-clause-each g c =
    are_of_zip c.in_ok-gate.gate c.in_ok-gate.pass 0 c.args.lists.items c.in_ok-done.done.items (first_of_gate c.in_ok-gate.gate c.in_ok-gate.pass c.in_ok-gate.ensures.pass)
    (subst (λ (js : List Job). AllZip DoesJob js c.in_ok-done.done.items) c.in_ok-jobs.ensures.jobs c.in_ok-done.ensures)

pub returns : goal.returns
returns g c =
    tallied c.in_ok-gate.pass c.join_all.new.pass c.args.lists.items c.in_ok-done.done.items c.in_ok-gate.gate c.close.result.added c.in_ok-gate.ensures.pass
    (subst (λ (js : List Job). AllZip DoesJob js c.in_ok-done.done.items) c.in_ok-jobs.ensures.jobs c.in_ok-done.ensures)
    (subst (λ (h : PassState Tallied _). JoinsAll h c.in_ok-done.done.items c.join_all.new.pass) (c.in_ok-jobs.ensures.pass ∙ ap (split_times c.in_ok-gate.pass) c.args.lists.ok.0) c.in_ok-join_all.ensures.joins)
    (c.in_ok-gate.ensures.entries ∙ c.new.ensures.1) c.close.ensures.whole
