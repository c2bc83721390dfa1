-- Journals that grow at their end.
use Rattle.std.proofs.Common.{◌≡◌, List, [], ◌∷◌, ◌++◌, refl}
use Rattle.store_words.specs.declared.entry.Entry.{Entry}
use Rattle.store_words.specs.Words.{reply_of}
use Rattle.store_words.specs.Serving.{Store, served, replayed, Replays}

pub replayed_on : (st : Store) (es : List Entry) (last : Entry) → replayed st (es ++ last ∷ []) ≡ (served (replayed st es) last.request).0
unfolding replayed
replayed_on st [] last = refl
replayed_on st (e ∷ es) last = replayed_on (served st e.request).0 es last

pub replays_on : (st : Store) (es : List Entry) (last : Entry) → Replays st es → (served (replayed st es) last.request).1 ≡ reply_of last.reply → Replays st (es ++ last ∷ [])
unfolding replayed Replays
replays_on st [] last h same = (same, tt)
replays_on st (e ∷ es) last h same = (h.0, replays_on (served st e.request).0 es last h.1 same)
