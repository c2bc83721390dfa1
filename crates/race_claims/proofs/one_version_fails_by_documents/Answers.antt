use Rattle.race_claims.proofs.Laws.{one_version_fails_by_documents}
use Rattle.race_claims.proofs.one_version_fails_by_documents.Goals as goal

pub returns : goal.returns
returns g c = one_version_fails_by_documents
