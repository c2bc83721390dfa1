use Rattle.std.proofs.Common.{◌∙◌, arith}
use Rattle.std.proofs.lemmas.Grind.{common_steps}
use Rattle.shared_tally.proofs.Jobs.{one_more}
use Rattle.shared_tally.proofs.actors.jobs_for.Goals as goal

pub loop-numbers-preserved : goal.loop-numbers-preserved
loop-numbers-preserved c =
    let more = one_more c.args.pass.now c.loop-numbers.pass c.split.new.pass c.in_ok-pass.pass c.loop-numbers.yielded c.in-Some.numbers c.loop-numbers.jobs.items c.loop-numbers.invariant.pass c.loop-numbers.invariant.jobs c.in_ok-pass.ensures.new c.in_ok-pass.ensures.parent in
    record {
      can = tt;
      ends = tt;
      pass = more.0;
      jobs = c.in_ok-push.ensures.items ∙ more.1;
      rest = grind (arith, common_steps);
    }
