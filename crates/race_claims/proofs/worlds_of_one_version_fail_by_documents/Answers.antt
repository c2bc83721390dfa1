use Rattle.race_claims.proofs.Laws.{worlds_of_one_version_fail_by_documents}
use Rattle.race_claims.proofs.worlds_of_one_version_fail_by_documents.Goals as goal

pub returns : goal.returns
returns g c = worlds_of_one_version_fail_by_documents
