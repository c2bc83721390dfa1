use Rattle.std.proofs.Common.{refl, sym, ◌∙◌}
use Rattle.doc_query.specs.Mapped.{query_of, holds_of}
use Rattle.doc_query.proofs.Searches.{and_true, and_false, selected}
use Rattle.doc_query.proofs.fitting.is_selected.Goals as goal
use Rattle.doc_query.proofs.fitting.is_selected.Goals.{then-has_type, else-has_type, then-is_of_no_type, else-is_of_no_type, then-has_reference, else-has_reference, then-has_origin, else-has_origin, then-is_outdated, else-is_outdated}

pub returns-then-comes_after : goal.returns-then-comes_after
returns-then-comes_after c =
    selected holds_of (query_of c.args.query.now) c.args.raw.now c.args.doc.now c.if-has_type.value c.if-is_of_no_type.value c.if-has_reference.value c.if-has_origin.value c.if-is_outdated.value c.passes.result
    (elim c.if-has_type.branch [ then-has_type w ↦ and_true (sym c.has_type.ensures ∙ w.if-has_type.true) (w.value-is ∙ w.is_of_no_type.ensures) | else-has_type w ↦ and_false _ (sym c.has_type.ensures ∙ w.if-has_type.false) (w.value-is ∙ c.has_type.ensures) ])
    (elim c.if-is_of_no_type.branch [ then-is_of_no_type w ↦ and_true w.if-is_of_no_type.true (w.value-is ∙ w.has_reference.ensures) | else-is_of_no_type w ↦ and_false _ w.if-is_of_no_type.false w.value-is ])
    (elim c.if-has_reference.branch [ then-has_reference w ↦ and_true w.if-has_reference.true (w.value-is ∙ w.has_origin.ensures) | else-has_reference w ↦ and_false _ w.if-has_reference.false w.value-is ])
    (elim c.if-has_origin.branch [ then-has_origin w ↦ and_true w.if-has_origin.true (w.value-is ∙ w.is_outdated.ensures) | else-has_origin w ↦ and_false _ w.if-has_origin.false w.value-is ])
    (elim c.if-is_outdated.branch [ then-is_outdated w ↦ and_true w.if-is_outdated.true (w.value-is ∙ w.comes_after.ensures) | else-is_outdated w ↦ and_false _ w.if-is_outdated.false w.value-is ])
    (and_true c.if-comes_after.true c.passes.ensures)

pub returns-else-comes_after : goal.returns-else-comes_after
returns-else-comes_after c =
    selected holds_of (query_of c.args.query.now) c.args.raw.now c.args.doc.now c.if-has_type.value c.if-is_of_no_type.value c.if-has_reference.value c.if-has_origin.value c.if-is_outdated.value c.if-is_outdated.value
    (elim c.if-has_type.branch [ then-has_type w ↦ and_true (sym c.has_type.ensures ∙ w.if-has_type.true) (w.value-is ∙ w.is_of_no_type.ensures) | else-has_type w ↦ and_false _ (sym c.has_type.ensures ∙ w.if-has_type.false) (w.value-is ∙ c.has_type.ensures) ])
    (elim c.if-is_of_no_type.branch [ then-is_of_no_type w ↦ and_true w.if-is_of_no_type.true (w.value-is ∙ w.has_reference.ensures) | else-is_of_no_type w ↦ and_false _ w.if-is_of_no_type.false w.value-is ])
    (elim c.if-has_reference.branch [ then-has_reference w ↦ and_true w.if-has_reference.true (w.value-is ∙ w.has_origin.ensures) | else-has_reference w ↦ and_false _ w.if-has_reference.false w.value-is ])
    (elim c.if-has_origin.branch [ then-has_origin w ↦ and_true w.if-has_origin.true (w.value-is ∙ w.is_outdated.ensures) | else-has_origin w ↦ and_false _ w.if-has_origin.false w.value-is ])
    (elim c.if-is_outdated.branch [ then-is_outdated w ↦ and_true w.if-is_outdated.true (w.value-is ∙ w.comes_after.ensures) | else-is_outdated w ↦ and_false _ w.if-is_outdated.false w.value-is ])
    (and_false _ c.if-comes_after.false refl)
