use Rattle.std.proofs.Common.{ap, ◌∙◌, Option}
use Rattle.document_model.specs.Registries.{known}
use Rattle.version_token.specs.declared.Ver.{Ver}
use Rattle.doc_transform.specs.Transforming.{shares_over}
use Rattle.doc_transform.proofs.StepLaws.{became-is}
use Rattle.doc_transform.proofs.migrating.became_shareable.Goals as goal

pub returns-clause-model : goal.returns-clause-model
returns-clause-model c =
    c.is_above.ensures ∙ ap (λ (v : Option Ver). shares_over v c.args.since) c.shareable_at-shareable_at.ensures ∙ became-is (known c.args.reg.now c.args.name.now) c.args.since
