use Rattle.std.proofs.Common.{◌≡◌, drop}
use Rattle.std.specs.Option.{option_copied}
use Rattle.race_model.specs.Replies.{rising}
use Rattle.store_words.specs.Names.{rising_after}
use Rattle.store_words.specs.Words.{all_seen}
use Rattle.store_words.proofs.fitting.indices_rise.Given as goal

-- those so far rise
abbrev pub invariant-loop-index : goal.invariant-loop-index
invariant-loop-index l = rising_after (option_copied l.last) (all_seen (drop l.index-index l.index-items)) ≡ rising (all_seen l.index-items)
