use Rattle.upgrade_laws.proofs.Claims.{fails}
use Rattle.upgrade_laws.proofs.one_version_fails_by_documents.Goals as goal

pub returns : goal.returns
returns g c = λ r set journal is single. fails r is set single journal
