use Rattle.std.proofs.Common.{◌≡◌, map, take}
use Rattle.object_acts.specs.declared.acts.Act.TheVariants as act
use Rattle.object_ops.proofs.making.all_creates.Given as goal

abbrev pub invariant-loop-object : goal.invariant-loop-object
invariant-loop-object l = l.acts ≡ map (λ object. act.Create object l.overwrite l.at) (take l.object-index l.object-items)
