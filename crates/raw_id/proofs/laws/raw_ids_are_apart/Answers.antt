use Rattle.raw_id.proofs.RawLaws.{one_object, one_space}
use Rattle.raw_id.proofs.laws.raw_ids_are_apart.Goals as goal

pub returns : goal.returns
returns c = λ kind kind2 space space2 name name2 id id2 p p2 q q2 a a2 e.
    let one = one_object kind kind2 space space2 name name2 id id2 p p2 q q2 a a2 e in
    (one.0, one.1, one_space kind kind2 space space2 name name2 id id2 one.0 p p2 q a a2 e)
