use Rattle.std.proofs.Common.{◌∷◌, List, [], ◌++◌, sym, subst, arith}
use Rattle.std.proofs.lemmas.Grind.{common_steps}
use Rattle.shared_tally.specs.Jobs.{Done, AreOf, JoinsAll}
use Rattle.shared_tally.proofs.Joins.{joins-snoc, joins_of_gate}
use Rattle.shared_tally.proofs.actors.join_all.Goals as goal

pub loop-one-preserved : goal.loop-one-preserved
loop-one-preserved c = record {
  can = tt;
  ends = tt;
  gate = joins_of_gate c.args.gate.now c.loop-one.pass c.in_ok-one.field-0 c.join.new.into c.loop-one.invariant.gate c.join.ensures.joined;
  joins = subst (λ (r : Done). JoinsAll c.args.pass.now (c.loop-one.yielded ++ r ∷ []) c.join.new.into) (sym c.in_ok-one.was)
      (joins-snoc c.args.pass.now c.loop-one.pass c.join.new.into c.in_ok-one.field-0 c.loop-one.yielded c.loop-one.invariant.joins record { joined = c.join.ensures.joined; names = c.join.ensures.names; owns = c.join.ensures.owns });
  each = (subst (λ (l : List Done). AreOf c.args.gate.now l) c.in-Some.ensures.steps.0 c.loop-one.invariant.each).1;
  rest = grind (arith, common_steps);
}
