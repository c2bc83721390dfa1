-- Journals that go on by one entry.
use Rattle.std.proofs.Common.{◌≡◌, ℕ, ◌+◌, ◌≤◌, ◌<◌, List, [], ◌∷◌, ◌++◌, length, take, refl, sym, ◌∙◌, ap, subst, arith, length-append}
use Rattle.std.specs.Prelude.{slice_set}
use Rattle.std.proofs.Math.Seq.{set-append_seam, take-append_seam}
use Rattle.store_words.specs.Serving.{Store, Answer, served, replayed, Replays}
use Rattle.store_words.specs.Words.{reply_of}
use Rattle.store_words.specs.declared.entry.Entry.{Entry}
use Rattle.store_words.specs.declared.entry.How.{How}
use Rattle.store_words.specs.declared.request.Request.{Request}
use Rattle.store_words.specs.declared.reply.Reply.{Reply}
use Rattle.store_core.specs.Standing.{HasRoom}
use Rattle.store_core.specs.Journals.{IsJournaled}

replayed_on : (st : Store) (es : List Entry) (e : Entry) → replayed st (es ++ e ∷ []) ≡ (served (replayed st es) e.request).0
unfolding replayed
replayed_on st [] e = refl
replayed_on st (x ∷ es) e = replayed_on (served st x.request).0 es e

replays_on : (st : Store) (es : List Entry) (e : Entry) → Replays st es → (served (replayed st es) e.request).1 ≡ reply_of e.reply → Replays st (es ++ e ∷ [])
unfolding replayed Replays
replays_on st [] e h k = (k, tt)
replays_on st (x ∷ es) e h k = (h.0, replays_on (served st x.request).0 es e h.1 k)

-- one more entry, whose reply is the one that its request gets
pub goes_on : (opening store now : Store) (limit : ℕ) (journal after : List Entry) (e : Entry) →
    IsJournaled (record { opening = opening; limit = limit; journal = journal; store = store }) → (now, reply_of e.reply) ≡ served store e.request → after ≡ journal ++ e ∷ [] →
    length journal + 1 ≤ limit → HasRoom (length journal + 1) now →
    IsJournaled (record { opening = opening; limit = limit; journal = after; store = now })
goes_on opening store now limit journal after e j s a l h =
    let served_now : now ≡ (served store e.request).0 = ap (λ (x : Answer). x.0) s in
    let served_reply : reply_of e.reply ≡ (served store e.request).1 = ap (λ (x : Answer). x.1) s in
    let at_end : (served (replayed opening journal) e.request).1 ≡ reply_of e.reply = ap (λ (st : Store). (served st e.request).1) (sym j.store) ∙ sym served_reply in
    let count : length after ≡ length journal + 1 = ap length a ∙ length-append journal (e ∷ []) in
    record {
      store = served_now ∙ ap (λ (st : Store). (served st e.request).0) j.store ∙ sym (replayed_on opening journal e) ∙ ap (λ es. replayed opening es) (sym a);
      replies = subst (λ es. Replays opening es) (sym a) (replays_on opening journal e j.replies at_end);
      within = omega arith;
      limit = j.limit;
      room = subst (λ n. HasRoom n now) (sym count) h;
    }

-- an entry in the place that was taken for it
pub placed : (es now : List Entry) (blank e : Entry) (at : ℕ) → at ≡ length es → now ≡ es ++ blank ∷ [] → slice_set now at e ≡ es ++ e ∷ []
placed es now blank e at n a = ap (λ (l : List Entry). slice_set l at e) a ∙ ap (λ (i : ℕ). slice_set (es ++ blank ∷ []) i e) n ∙ set-append_seam es blank [] e

-- the place that was taken is given back
pub given_back : (es now : List Entry) (blank : Entry) (at : ℕ) → at ≡ length es → now ≡ es ++ blank ∷ [] → take at now ≡ es
given_back es now blank at n a = ap (λ (l : List Entry). take at l) a ∙ ap (λ (i : ℕ). take i (es ++ blank ∷ [])) n ∙ take-append_seam es (blank ∷ [])

pub within_place : (es now : List Entry) (blank : Entry) (at : ℕ) → at ≡ length es → now ≡ es ++ blank ∷ [] → at < length now
within_place es now blank at n a = let e = ap length a ∙ length-append es (blank ∷ []) in omega arith

abbrev pub entry_of_parts : ℕ → ℕ → How → Request → Reply → Entry
entry_of_parts actor tag how request reply = record { actor = actor; tag = tag; how = how; request = request; reply = reply }

-- an entry of copies
pub entry_with : (actor tag : ℕ) (how : How) (copy request : Request) (kept reply : Reply) → copy ≡ request → kept ≡ reply →
    entry_of_parts actor tag how copy kept ≡ entry_of_parts actor tag how request reply
entry_with actor tag how copy request kept reply e f =
    ap (λ (r : Request). entry_of_parts actor tag how r kept) e ∙ ap (λ (t : Reply). entry_of_parts actor tag how request t) f
