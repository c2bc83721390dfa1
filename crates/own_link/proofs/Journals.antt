-- What the journal says of the entries that were added.
use Rattle.std.proofs.Common.{◌≡◌, ◌+◌, List, [], ◌∷◌, ◌++◌, length, refl, sym, ◌∙◌, ap, subst, length-append}
use Rattle.store_words.specs.declared.entry.Entry.{Entry}
use Rattle.store_words.specs.declared.request.Request.{Request}
use Rattle.store_words.specs.declared.reply.Reply.{Reply}
use Rattle.store_words.specs.Words.{reply_of}
use Rattle.store_words.specs.Serving.{Store, served, replayed, Replays}
use Rattle.own_link.proofs.Sends.{OneMore}

replayed_on : (st : Store) (es : List Entry) (last : Entry) → replayed st (es ++ last ∷ []) ≡ (served (replayed st es) last.request).0
unfolding replayed
replayed_on st [] last = refl
replayed_on st (e ∷ es) last = replayed_on (served st e.request).0 es last

-- the entries before the last
replays_front : (st : Store) (es : List Entry) (last : Entry) → Replays st (es ++ last ∷ []) → Replays st es
unfolding Replays
replays_front st [] last h = tt
replays_front st (e ∷ es) last h = (h.0, replays_front (served st e.request).0 es last h.1)

-- the reply of the last
replays_last : (st : Store) (es : List Entry) (last : Entry) → Replays st (es ++ last ∷ []) → (served (replayed st es) last.request).1 ≡ reply_of last.reply
unfolding replayed Replays
replays_last st [] last h = h.0
replays_last st (e ∷ es) last h = replays_last (served st e.request).0 es last h.1

-- a request whose entry was added: what the journal before replays to served it
pub record ServedOne (opening : Store) (request : Request) (reply : Reply) (old new : List Entry) : Type 0 where
  pub before : Replays opening old
  pub told : (served (replayed opening old) request).1 ≡ reply_of reply
  pub after : replayed opening new ≡ (served (replayed opening old) request).0
  pub longer : length new ≡ length old + 1

pub served_one : (opening : Store) (request : Request) (reply : Reply) (old new : List Entry) → OneMore request reply old new → Replays opening new → ServedOne opening request reply old new
served_one opening request reply old new o replays =
    let grown : Replays opening (old ++ o.entry ∷ []) = subst (λ (es : List Entry). Replays opening es) o.grown replays in
    record {
      before = replays_front opening old o.entry grown;
      told = ap (λ (r : Request). (served (replayed opening old) r).1) (sym o.requests) ∙ replays_last opening old o.entry grown ∙ ap reply_of o.replies;
      after = ap (λ (es : List Entry). replayed opening es) o.grown ∙ replayed_on opening old o.entry ∙ ap (λ (r : Request). (served (replayed opening old) r).0) o.requests;
      longer = ap length o.grown ∙ length-append old (o.entry ∷ []);
    }
