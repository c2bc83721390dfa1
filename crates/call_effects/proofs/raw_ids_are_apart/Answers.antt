use Rattle.call_effects.proofs.Raws.{one_object, one_space}
use Rattle.call_effects.proofs.raw_ids_are_apart.Goals as goal

pub returns : goal.returns
returns c = λ kind kind2 space space2 name name2 id id2 p p2 q q2 a a2 e.
    let one = one_object kind kind2 space space2 name name2 id id2 p p2 q q2 a a2 e in
    (one.0, one.1, one_space kind kind2 space space2 name name2 id id2 one.0 p p2 q a a2 e)
