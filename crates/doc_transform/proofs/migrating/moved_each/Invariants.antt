use Rattle.std.proofs.Common.{◌≡◌, map, take}
use Rattle.document_model.specs.Migrations.{moved_ref}
use Rattle.doc_transform.specs.Transforming.{effects}
use Rattle.doc_transform.proofs.migrating.moved_each.Given as goal

abbrev pub invariant-loop-reference : goal.invariant-loop-reference
invariant-loop-reference l = l.all ≡ map (moved_ref effects l.reg l.space l.core) (take l.reference-index l.reference-items)
