use Rattle.object_ops.specs.Mapped.{progress_of}
use Rattle.call_words.specs.Mapped.{call_of}
use Rattle.object_repo.proofs.Plans.{Lawful, few_objects, all_end_soon, performs, stops_as}
use Rattle.object_repo.proofs.performing.perform.Given.{Over}
use Rattle.object_repo.proofs.performing.perform.Goals as goal
use Rattle.object_repo.proofs.performing.perform.Goals.{After-plans_follow_the_definition}

law : (g : Over) → After-plans_follow_the_definition g → Lawful
law g c = record {
  asks_first = c.plans_follow_the_definition.ensures.first;
  answers = c.plans_follow_the_definition.ensures.answers;
  asks = c.plans_follow_the_definition.ensures.asks;
  ends = c.plans_follow_the_definition.ensures.last;
  starts = c.plans_follow_the_definition.ensures.starts;
  goes_on = c.plans_follow_the_definition.ensures.goes_on;
  first_is_small = c.plans_follow_the_definition.ensures.first_is_small;
  next_is_small = c.plans_follow_the_definition.ensures.next_is_small;
}

pub run-requires-clause-last : goal.run-requires-clause-last
run-requires-clause-last g c =
    let at = goal.at.run-requires-clause-last g c in
    all_end_soon (law g at.After-plans_follow_the_definition) c.args.reg.now (call_of c.args.call.now) (progress_of c.in-Ok.plan) c.in-Ok.ensures (few_objects c.args.call.now c.requires)

pub returns-in-Ok-run-clause-ok : goal.returns-in-Ok-run-clause-ok
returns-in-Ok-run-clause-ok g c =
    let at = goal.at.returns-in-Ok-run-clause-ok g c in
    performs (law g at.After-plans_follow_the_definition) c.args.reg.now (call_of c.args.call.now) (progress_of c.in-Ok.plan) (g.L.Link.failed c.args.link.now) c.args.tag c.in-Ok.ensures
    (progress_of c.run.new.plan) (g.L.Link.entries c.args.link.now) (g.L.Link.entries c.run.new.link) c.answer_of.result c.in-Ok-run.ensures.ok c.answer_of.ensures

pub returns-in-Err-run-clause-err : goal.returns-in-Err-run-clause-err
returns-in-Err-run-clause-err g c =
    let at = goal.at.returns-in-Err-run-clause-err g c in
    stops_as (law g at.After-plans_follow_the_definition) c.args.reg.now (call_of c.args.call.now) (progress_of c.in-Ok.plan) (g.L.Link.failed c.args.link.now) c.args.tag c.in-Ok.ensures
    (g.L.Link.entries c.args.link.now) (g.L.Link.entries c.run.new.link) c.in-Err-run.error c.in-Err-run.ensures.err
