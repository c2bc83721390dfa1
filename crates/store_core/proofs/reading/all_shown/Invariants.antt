use Rattle.std.proofs.Common.{◌≡◌, take}
use Rattle.race_model.specs.Stores.{seen}
use Rattle.store_words.specs.Words.{all_seen}
use Rattle.store_core.proofs.reading.all_shown.Given as goal

-- what is shown of the indices so far
abbrev pub invariant-loop-at : goal.invariant-loop-at
invariant-loop-at l = all_seen l.all ≡ seen (take l.at l.indices.indices)
