use Rattle.std.proofs.Common.{refl, ap, ◌∙◌}
use Rattle.std.specs.Prelude.{codes}
use Rattle.report.specs.Answers.{object_fields}
use Rattle.report.specs.Members.{always}
use Rattle.report.proofs.Listed.{next, object_with}
use Rattle.report.proofs.objects.object_tree.Goals as goal

pub returns : goal.returns
returns c =
    object_with c.object.result _ (object_fields c.args.shown)
    (next _ _ _ _ (c.in_ok-new.ensures ∙ ap (always (codes "attributes")) c.of_attributes.ensures)
    (next _ _ _ _ c.in_ok-version_field.ensures
    (next _ _ _ _ c.in_ok-text.ensures
    (next _ _ _ _ c.in_ok-spaces_field.ensures
    (next _ _ _ _ c.in_ok-optional_text.ensures
    (next _ _ _ _ (c.in_ok-new-2.ensures ∙ ap (always (codes "references")) c.in_ok-references.ensures)
    (next _ _ _ _ c.in_ok-text-2.ensures
    (next _ _ _ _ c.in_ok-version_field-2.ensures
    (next _ _ _ _ c.in_ok-optional_text-2.ensures
    (next _ _ _ _ c.in_ok-text-3.ensures refl))))))))))
    c.object.ensures
