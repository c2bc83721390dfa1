use Rattle.std.proofs.Common.{◌≡◌, drop}
use Rattle.std.specs.Option.{option_copied}
use Rattle.race_model.specs.Replies.{rising}
use Rattle.alias_table.specs.Plans.{keyed_of}
use Rattle.store_words.specs.Names.{rising_after}
use Rattle.store_words.proofs.fitting.aliases_rise.Given as goal

-- those so far rise
abbrev pub invariant-loop-pair : goal.invariant-loop-pair
invariant-loop-pair l = rising_after (option_copied l.last) (keyed_of (drop l.pair-index l.pair-items)) ≡ rising (keyed_of l.pair-items)
