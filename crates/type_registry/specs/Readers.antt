-- What a registry tells of a type that may be known.
use Rattle.std.specs.Prelude.{List, [], Option, Some, None}
use Rattle.document_model.specs.Migrations.{ops_above}
use Rattle.document_model.specs.Registries.{Known}
use Rattle.version_token.specs.declared.Ver.{Ver}

-- the operations of a type's versions above a stamp, and none where it isn't known
abbrev pub ops_known : {O : Type 0} → Option Ver → Option (Known O) → List O
ops_known stamp None = []
ops_known stamp (Some t) = ops_above stamp t.steps
