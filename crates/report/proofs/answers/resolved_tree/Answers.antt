use Rattle.std.proofs.Common.{ℕ, List, refl, ap, ◌∙◌}
use Rattle.std.specs.Prelude.{codes}
use Rattle.so_js.specs.declared.js.Js.TheVariants.{Str}
use Rattle.report.specs.Answers.{resolved_fields}
use Rattle.report.specs.Members.{always}
use Rattle.report.proofs.Listed.{next, object_with}
use Rattle.report.proofs.answers.resolved_tree.Goals as goal

pub returns : goal.returns
returns c =
    object_with c.object.result _ (resolved_fields c.args.shown c.args.outcome c.args.target)
    (next _ _ _ _ c.in_ok-optional_text.ensures
    (next _ _ _ _ (c.in_ok-new.ensures ∙ ap (always (codes "object")) c.in_ok-found.ensures)
    (next _ _ _ _ (c.in_ok-word.ensures ∙ ap (λ (name : List ℕ). always (codes "outcome") (Str name)) c.outcome_text.ensures) refl)))
    c.object.ensures
