use Rattle.std.proofs.Common.{◌≡◌, ◌++◌, sym, ap, ◌∙◌, arith}
use Rattle.raw_id.specs.IndexNames.{front, underscore}
use Rattle.raw_id.proofs.IndexLaws.{no_parts, parts_after}
use Rattle.raw_id.proofs.Splits.{split_is_cut}
use Rattle.raw_id.proofs.index_names.parts_of.Goals as goal

pub returns-in_default : goal.returns-in_default
returns-in_default c = sym (no_parts c.args.name.now c.in_default.ensures.cases)

pub returns : goal.returns
returns c =
    let found = c.in-Some.ensures.cases in
    let whole : c.args.name.now ≡ front ++ c.in-Some.rest.now = found.1.1 ∙ ap (λ t. front ++ t) (sym found.2) in
    split_is_cut underscore c.in-Some.rest.now c.split_once.result c.split_once.ensures.cases (omega arith) ∙ sym (parts_after c.args.name.now c.in-Some.rest.now whole)
