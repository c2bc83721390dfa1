use Rattle.doc_transform.proofs.ObjectLaws.{still_object}
use Rattle.doc_transform.proofs.lifting.apply_to_object.Goals as goal

pub returns-clause-object : goal.returns-clause-object
returns-clause-object c = still_object c.args.attributes c.in_ok-lifted.lifted c.in_ok-lifted.ensures.object c.requires.object
