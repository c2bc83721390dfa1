use Rattle.std.proofs.Common.{sym, ap, ◌∙◌}
use Rattle.std.proofs.lemmas.Bool.{and_parts}
use Rattle.so_js.specs.Tree.{is_sound}
use Rattle.so_js.proofs.TreeLaws.{is_sound-Object}
use Rattle.saved_doc.proofs.reading.into_member.Goals as goal

pub value_in-requires : goal.value_in-requires
value_in-requires c = (and_parts _ _ (sym (is_sound-Object c.in-Object.members) ∙ ap is_sound (sym c.in-Object.is) ∙ c.requires)).0
