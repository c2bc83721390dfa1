-- What a call may ask for.
use Rattle.std.specs.Prelude.{◌≤◌, length, ⊤}
use Rattle.call_words.specs.declared.calls.Call.{Call}
use Rattle.call_words.specs.declared.calls.Call.TheVariants.{BulkCreate}

-- a bulkCreate has at most 10,000 objects
abbrev pub HasFewObjects : Call → Type 0
HasFewObjects (BulkCreate space objects overwrite time) = length objects ≤ 10000
HasFewObjects _ = ⊤
