use Rattle.std.proofs.Common.{◌≡◌, ◌++◌, drop, true}
use Rattle.std.specs.List.{list_all}
use Rattle.document_model.specs.Migrations.{ops_above}
use Rattle.transform_ops.specs.Effects.{op_is_sound}
use Rattle.type_registry.proofs.registry.copied_above.Given as goal

-- those of the migrations that were passed, and of those that are left
abbrev pub invariant-loop-migration : goal.invariant-loop-migration
invariant-loop-migration l = record {
  whole : l.all ++ ops_above l.stamp (drop l.migration-index l.migration-items) ≡ ops_above l.stamp l.migration-items;
  sound : list_all op_is_sound l.all ≡ true;
}
