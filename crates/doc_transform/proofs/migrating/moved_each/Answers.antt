use Rattle.document_model.specs.Migrations.{moved_ref}
use Rattle.doc_transform.specs.Transforming.{effects}
use Rattle.doc_transform.proofs.ListLaws.{push-mapped}
use Rattle.doc_transform.proofs.migrating.moved_each.Goals as goal

pub loop-reference-preserved : goal.loop-reference-preserved
loop-reference-preserved c =
    push-mapped (moved_ref effects c.args.reg.now c.args.space.now c.args.core) c.as_slice-reference-items.result.now c.loop-reference.reference-index c.reference-item.result _ _ _
    c.loop-reference-test.true c.in_ok-push.ensures.ok c.loop-reference.invariant c.in_ok-moved_reference.ensures c.reference-item.is
