-- The plan of each call, on generations.
use Rattle.std.proofs.Common.{◌≡◌, ◌⊎◌, Bool, true, false, Option, Some, None, List, [], ◌∷◌, refl, sym, subst, not, if◌then◌else◌}
use mathlib.Core.Logic.◌⊎◌.{inl, inr}
use Rattle.base_model.specs.Keyed.{Text, same}
use Rattle.race_model.specs.Generations.{Generations, told_by}
use Rattle.race_tables.proofs.Keys.{same_refl}
use Rattle.document_model.specs.Documents.{Doc, lists}
use Rattle.document_model.specs.Registries.{Registry}
use Rattle.call_model.specs.Words.{Words}
use Rattle.call_model.specs.Calls.{NewObject, Act, Call}
use Rattle.call_model.specs.declared.refuse.Refuse.{Refuse}
use Rattle.call_model.specs.Calls.Act.{Create}
use Rattle.call_model.specs.Calls.Call.{Changing, BulkCreating, Getting, BulkGetting, Resolving, Finding}
use Rattle.call_model.specs.declared.refuse.Refuse.TheVariants.{BadSpace}
use Rattle.query_model.specs.Queries.{select}
use Rattle.call_model.specs.Acts.{is_space, bad_space, own_words, raw_of, target_of}
use Rattle.call_model.specs.Steps.{Turn, turn_over, taken_after, turns, find_words, looks, resolve_words, creates, Work, unless, unless_words, work_of}
use Rattle.call_model.specs.Steps.Turn.{Goes}
use Rattle.call_model.specs.Steps.Work.{Writing, Looking, Searching, Following}
use Rattle.call_model.specs.Plans.{is_blind, all_blind, first_of_work, then_of_work}
use Rattle.call_laws.proofs.Aliases.{turns_no_alias}
use Rattle.call_laws.proofs.Bulks.{NoneOf, Apart}
use Rattle.call_laws.proofs.Writing.{Fate, NoneBlind, fate_writing}
use Rattle.call_laws.proofs.Reading.{fate_refusing, fate_looking, fate_searching, fate_following}

module _ {A O F : Type 0} (w : Words A O F) (reg : Registry O) where
  still_listed : (raw other : Text) (taken : List Text) (o : Option Refuse) → lists raw taken ≡ true → lists raw (taken_after o other taken) ≡ true
  unfolding lists
  still_listed raw other taken (Some r) e = e
  still_listed raw other taken None e = by (same raw other)
    where
      by : (b : Bool) → (if b then true else lists raw taken) ≡ true
      by true = refl
      by false = e

  now_listed : (raw : Text) (taken : List Text) → lists raw (raw ∷ taken) ≡ true
  unfolding lists
  now_listed raw taken = rw (same_refl raw) refl

  none_of_taken : (space raw : Text) (acts : List (Act A)) (taken : List Text) → lists raw taken ≡ true → NoneOf raw (turns w reg space taken acts)
  unfolding turns NoneOf
  none_of_taken space raw [] taken e = tt
  none_of_taken space raw (act ∷ acts) taken e =
      by (own_words w reg act) (lists (raw_of reg space (target_of act)) taken) refl (turns w reg space (taken_after (own_words w reg act) (raw_of reg space (target_of act)) taken) acts) (none_of_taken space raw acts (taken_after (own_words w reg act) (raw_of reg space (target_of act)) taken) (still_listed raw (raw_of reg space (target_of act)) taken (own_words w reg act) e))
    where
      other : Text
      other = raw_of reg space (target_of act)

      by : (o : Option Refuse) (b : Bool) → lists other taken ≡ b → (rest : List (Turn A)) → NoneOf raw rest → NoneOf raw (turn_over o b other act ∷ rest)
      by (Some r) b f rest h = h
      by None true f rest h = h
      by None false f rest h = (λ is. let g : lists other taken ≡ true = subst (λ x. lists x taken ≡ true) (sym is) e in absurd (cc), h)

  pub turns_apart : (space : Text) (acts : List (Act A)) (taken : List Text) → Apart (turns w reg space taken acts)
  unfolding turns Apart
  turns_apart space [] taken = tt
  turns_apart space (act ∷ acts) taken = by (own_words w reg act) (lists other taken) (turns_apart space acts (taken_after (own_words w reg act) other taken)) (λ e. none_of_taken space other acts (taken_after (own_words w reg act) other taken) e)
    where
      other : Text
      other = raw_of reg space (target_of act)

      by : (o : Option Refuse) (b : Bool) → Apart (turns w reg space (taken_after o other taken) acts) → (lists other (taken_after o other taken) ≡ true → NoneOf other (turns w reg space (taken_after o other taken) acts))
          → Apart (turn_over o b other act ∷ turns w reg space (taken_after o other taken) acts)
      by (Some r) b h n = h
      by None true h n = h
      by None false h n = (n (now_listed other taken), h)

  abbrev Even : List (Turn A) → Type 0
  Even ts = (all_blind ts ≡ true) ⊎ ((all_blind ts ≡ false) × NoneBlind w reg ts)

  even_none : (ts : List (Turn A)) → NoneBlind w reg ts → Even ts
  even_none ts n = by (all_blind ts) refl
    where
      by : (b : Bool) → all_blind ts ≡ b → Even ts
      by true e = inl e
      by false e = inr (e, n)

  even_one : (act : Act A) (o : Option Refuse) (repeated : Bool) (raw : Text) → Even (turn_over o repeated raw act ∷ [])
  unfolding NoneBlind
  even_one act (Some r) repeated raw = inl refl
  even_one act None true raw = inl refl
  even_one act None false raw = by (is_blind act) refl
    where
      by : (b : Bool) → is_blind act ≡ b → Even (Goes raw act ∷ [])
      by true e = inl (rw e refl)
      by false e = inr (rw e refl, (e, tt))

  blind_creates : (space : Text) (time : Option Text) (os : List (NewObject A)) (taken : List Text) → all_blind (turns w reg space taken (creates false time os)) ≡ true
  unfolding turns
  blind_creates space time [] taken = refl
  blind_creates space time (o ∷ os) taken = by (own_words w reg act) (lists other taken) (blind_creates space time os (taken_after (own_words w reg act) other taken))
    where
      act : Act A
      act = Create o false time

      other : Text
      other = raw_of reg space (target_of act)

      by : (r : Option Refuse) (b : Bool) → all_blind (turns w reg space (taken_after r other taken) (creates false time os)) ≡ true → all_blind (turn_over r b other act ∷ turns w reg space (taken_after r other taken) (creates false time os)) ≡ true
      by (Some r) b h = h
      by None true h = h
      by None false h = h

  seeing_creates : (space : Text) (time : Option Text) (os : List (NewObject A)) (taken : List Text) → NoneBlind w reg (turns w reg space taken (creates true time os))
  unfolding turns NoneBlind
  seeing_creates space time [] taken = tt
  seeing_creates space time (o ∷ os) taken = by (own_words w reg act) (lists other taken) (seeing_creates space time os (taken_after (own_words w reg act) other taken))
    where
      act : Act A
      act = Create o true time

      other : Text
      other = raw_of reg space (target_of act)

      by : (r : Option Refuse) (b : Bool) → NoneBlind w reg (turns w reg space (taken_after r other taken) (creates true time os)) → NoneBlind w reg (turn_over r b other act ∷ turns w reg space (taken_after r other taken) (creates true time os))
      by (Some r) b h = h
      by None true h = h
      by None false h = (refl, h)

  even_creates : (space : Text) (overwrite : Bool) (time : Option Text) (os : List (NewObject A)) → Even (turns w reg space [] (creates overwrite time os))
  even_creates space false time os = inl (blind_creates space time os [])
  even_creates space true time os = even_none (turns w reg space [] (creates true time os)) (seeing_creates space time os [])

  -- the plan of this work is as it means
  abbrev Right : Work A → Type 0
  Right work = (gs : Generations (Doc A)) → Fate w reg work gs (first_of_work w reg work) (then_of_work w reg work (told_by (select w.holds) gs (first_of_work w reg work)))

  right_unless : (b : Bool) (r : Refuse) (work : Work A) → Right work → Right (unless b r work)
  right_unless true r work f = λ gs. fate_refusing w reg r gs
  right_unless false r work f = f

  right_words : (o : Option Refuse) (work : Work A) → Right work → Right (unless_words o work)
  right_words (Some r) work f = λ gs. fate_refusing w reg r gs
  right_words None work f = f

  -- each call's plan gives what the call means
  pub right_call : (call : Call A) → Right (work_of w reg call)
  unfolding work_of turns
  right_call (Changing space act) =
      right_unless (bad_space space act) BadSpace (Writing true space (turns w reg space [] (act ∷ [])))
      (fate_writing w reg space true (turns w reg space [] (act ∷ [])) (turns_apart space (act ∷ []) []) (turns_no_alias w reg space (act ∷ []) []) (even_one act (own_words w reg act) (lists (raw_of reg space (target_of act)) []) (raw_of reg space (target_of act))))
  right_call (BulkCreating space os overwrite time) =
      right_unless (not (is_space space)) BadSpace (Writing false space (turns w reg space [] (creates overwrite time os)))
      (fate_writing w reg space false (turns w reg space [] (creates overwrite time os)) (turns_apart space (creates overwrite time os) []) (turns_no_alias w reg space (creates overwrite time os) []) (even_creates space overwrite time os))
  right_call (Getting space t) = right_unless (not (is_space space)) BadSpace (Looking true space (looks reg (t ∷ []))) (fate_looking w reg true space (looks reg (t ∷ [])))
  right_call (BulkGetting space ts) = right_unless (not (is_space space)) BadSpace (Looking false space (looks reg ts)) (fate_looking w reg false space (looks reg ts))
  right_call (Resolving space q) = right_words (resolve_words reg space q) (Following space q) (fate_following w reg space q)
  right_call (Finding space f) = right_words (find_words w reg space f) (Searching space f) (fate_searching w reg space f)
