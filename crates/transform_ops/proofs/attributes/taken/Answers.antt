use Rattle.std.proofs.Common.{sym, ◌∙◌}
use Rattle.transform_ops.proofs.AttributeLaws.{taken_at, none_at}
use Rattle.transform_ops.proofs.attributes.taken.Goals as goal

pub returns-in-Some-clause-value : goal.returns-in-Some-clause-value
returns-in-Some-clause-value c = sym (taken_at c.args.key.now c.args.members.now c.in-Some.at (sym c.in-Some.ensures.place) c.remove-member.result c.remove-member.ensures.item).value

pub returns-in-Some-clause-rest : goal.returns-in-Some-clause-rest
returns-in-Some-clause-rest c = c.remove-member.ensures.rest ∙ (taken_at c.args.key.now c.args.members.now c.in-Some.at (sym c.in-Some.ensures.place) c.remove-member.result c.remove-member.ensures.item).rest

pub returns-in-None-clause-value : goal.returns-in-None-clause-value
returns-in-None-clause-value c = sym (none_at c.args.key.now c.args.members.now (sym c.in-None.ensures.place)).0

pub returns-in-None-clause-rest : goal.returns-in-None-clause-rest
returns-in-None-clause-rest c = sym (none_at c.args.key.now c.args.members.now (sym c.in-None.ensures.place)).1
