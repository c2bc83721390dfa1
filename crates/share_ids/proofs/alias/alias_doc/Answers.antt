use Rattle.std.proofs.Common.{ap, ◌∙◌}
use Rattle.document_model.specs.Names.{is_type_name}
use Rattle.saved_doc.specs.Trees.{is_object}
use Rattle.so_js.specs.Tree.{is_sound}
use Rattle.share_ids.proofs.AliasLaws.{alias_type-name, alias_attributes-sound, alias_attributes-object}
use Rattle.share_ids.proofs.alias.alias_doc.Goals as goal

pub invariant_of-result : goal.invariant_of-result
invariant_of-result c =
    let attributes = c.in_ok-attributes.ensures in (
      ap is_type_name c.in_ok-type_name.ensures ∙ alias_type-name,
      ap is_sound attributes ∙ alias_attributes-sound _ _ _ _,
      ap is_object attributes ∙ alias_attributes-object _ _ _ _,
    )
