use Rattle.std.proofs.Common.{◌∷◌, [], sym, ◌∙◌}
use Rattle.doc_transform.proofs.IdLaws.{chain-None, chain-Some}
use Rattle.doc_transform.proofs.ids.behind_name.Goals as goal

pub returns-in-Some : goal.returns-in-Some
returns-in-Some c = c.behind-in-Some.ensures ∙ sym (chain-Some c.args.name.now (58 ∷ []) c.args.text.now c.in-Some.rest.now (sym c.in-Some.ensures))

pub returns-in-None : goal.returns-in-None
returns-in-None c = sym (chain-None c.args.name.now (58 ∷ []) c.args.text.now (sym c.in-None.ensures))
