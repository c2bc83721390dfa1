use Rattle.std.proofs.Common.{[], sym, ap, ◌∙◌}
use Rattle.base_model.specs.Keyed.{Text}
use Rattle.document_model.specs.Documents.{after, joined}
use Rattle.doc_transform.proofs.IdLaws.{chain-None, chain-Some, front-is}
use Rattle.doc_transform.proofs.ids.behind_both.Goals as goal

pub returns-in-Some : goal.returns-in-Some
returns-in-Some c =
    let space = c.args.space.now in
    let name = c.args.name.now in
    c.behind_name-in-Some.ensures
    ∙ sym (ap (λ (p : Text). after p c.args.text.now) (front-is space name) ∙ chain-Some (joined space []) (joined name []) c.args.text.now c.in-Some.rest.now (sym c.in-Some.ensures))

pub returns-in-None : goal.returns-in-None
returns-in-None c =
    let space = c.args.space.now in
    let name = c.args.name.now in
    sym (ap (λ (p : Text). after p c.args.text.now) (front-is space name) ∙ chain-None (joined space []) (joined name []) c.args.text.now (sym c.in-None.ensures))
