use Rattle.std.proofs.Common.{sym, ◌∙◌}
use Rattle.raw_id.proofs.IndexLaws.{has-version_in, version_in-has}
use Rattle.raw_id.proofs.index_names.version_in.Goals as goal

pub returns-clause-form : goal.returns-clause-form
returns-clause-form c = λ v. (λ is. has-version_in c.args.name.now v (sym c.named_version.ensures ∙ is), λ has. c.named_version.ensures ∙ version_in-has c.args.name.now v has)
