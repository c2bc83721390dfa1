use Rattle.std.proofs.Common.{◌≡◌, drop, true, is_some}
use Rattle.std.specs.List.{list_all}
use Rattle.document_model.specs.Migrations.{all_ops}
use Rattle.so_js.specs.Tree.{is_sound, object_of}
use Rattle.transform_ops.specs.Effects.{op_is_sound}
use Rattle.doc_transform.specs.Transforming.{effects}
use Rattle.doc_transform.proofs.lifting.apply_all.Given as goal

-- the operations that are left make the whole
abbrev pub invariant-loop-op : goal.invariant-loop-op
invariant-loop-op l = record {
  whole : all_ops effects (drop l.op-index l.op-items) l.lifted ≡ all_ops effects l.op-items l.initial.lifted;
  left : list_all op_is_sound (drop l.op-index l.op-items) ≡ true;
  sound : is_sound l.lifted ≡ true;
  object : is_some (object_of l.lifted) ≡ is_some (object_of l.initial.lifted);
}
