use Rattle.call_words.specs.Mapped.{new_object_of}
use Rattle.call_words.specs.Product.{product_words}
use Rattle.object_acts.proofs.OwnWords.{not_refused}
use Rattle.object_acts.proofs.judging.judge.Goals as goal

pub overwrite-requires-clause-known : goal.overwrite-requires-clause-known
overwrite-requires-clause-known c =
    let words = rw c.in-Create-default-true-default.is at c.requires in
    (not_refused product_words c.args.reg.now (new_object_of c.in-Create-default-true-default.object) _ _ words).0

pub overwrite-requires-clause-stamp : goal.overwrite-requires-clause-stamp
overwrite-requires-clause-stamp c =
    let words = rw c.in-Create-default-true-default.is at c.requires in
    (not_refused product_words c.args.reg.now (new_object_of c.in-Create-default-true-default.object) _ _ words).1

pub make-requires-clause-known : goal.make-requires-clause-known
make-requires-clause-known c =
    let words = rw c.in-Create.is at c.requires in
    (not_refused product_words c.args.reg.now (new_object_of c.in-Create.object) _ _ words).0

pub make-requires-clause-stamp : goal.make-requires-clause-stamp
make-requires-clause-stamp c =
    let words = rw c.in-Create.is at c.requires in
    (not_refused product_words c.args.reg.now (new_object_of c.in-Create.object) _ _ words).1
