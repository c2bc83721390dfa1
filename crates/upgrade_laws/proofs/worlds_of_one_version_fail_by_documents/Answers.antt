use Rattle.upgrade_laws.proofs.Claims.{machine_fails}
use Rattle.upgrade_laws.proofs.worlds_of_one_version_fail_by_documents.Goals as goal

pub returns : goal.returns
returns g c = λ r set events is single. machine_fails r is set single events
