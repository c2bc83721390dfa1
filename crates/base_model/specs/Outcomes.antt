-- What migrating one document gives.
use Rattle.std.specs.Prelude.{List}
use Rattle.base_model.specs.Keyed.{Text}

-- nothing, since its type was removed; a cause against it; or its outputs, each under its raw id, the document itself first
pub data Outcome (D : Type 0) : Type 0 where
  Removed : Outcome D
  Unknown : Outcome D
  TooNew : Outcome D
  Corrupt : Outcome D
  Outputs : List (Text × D) → Outcome D
