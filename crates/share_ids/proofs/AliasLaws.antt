-- The parts of an alias document meet what each document does.
use Rattle.std.proofs.Common.{◌≡◌, ◌∷◌, [], map, true, refl, ◌∙◌}
use Rattle.std.specs.List.{list_all}
use Rattle.std.proofs.lemmas.Bool.{and_from}
use Rattle.base_model.specs.Keyed.{Text, Keyed}
use Rattle.document_model.specs.Names.{is_type_name, is_document_member}
use Rattle.document_model.specs.Registries.{alias_type}
use Rattle.saved_doc.specs.Trees.{is_object}
use Rattle.saved_doc.proofs.TreeForms.{is_object-Object}
use Rattle.so_js.specs.Tree.{is_sound}
use Rattle.so_js.proofs.TreeLaws.{is_sound-Str, is_sound-Object}
use Rattle.share_ids.specs.Ids.{text_member, alias_texts, alias_attributes}

pub alias_type-name : is_type_name alias_type ≡ true
unfolding is_type_name is_document_member
alias_type-name = refl

texts-sound : (texts : Keyed Text) → list_all (λ m. is_sound m.value) (map text_member texts) ≡ true
texts-sound [] = refl
texts-sound (e ∷ texts) = and_from _ _ (is_sound-Str e.1) (texts-sound texts)

pub alias_attributes-sound : (space name old new : Text) → is_sound (alias_attributes space name old new) ≡ true
alias_attributes-sound space name old new = is_sound-Object _ ∙ and_from _ _ (texts-sound (alias_texts space name old new)) refl

pub alias_attributes-object : (space name old new : Text) → is_object (alias_attributes space name old new) ≡ true
alias_attributes-object space name old new = is_object-Object _
