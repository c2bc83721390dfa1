-- The lines of known bytes, one after another, up to a failed read.
use Rattle.std.proofs.Common.{◌≡◌, ◌≤◌, ◌⊎◌, ℕ, ◌+◌, ◌==◌, List, [], ◌∷◌, ◌++◌, length, true, false, not, nat_lt, is_ok, Option, Some, None, Ok, Err, refl, sym, ap, subst, ◌∙◌, append_assoc, append-nil, length-append, arith}
use mathlib.Core.Logic.{inl, inr}
use Rattle.std.specs.List.{list_all}
use Rattle.std.specs.Str.Lines.{strip_carriage_return}
use Rattle.std.specs.Io.KnownBytes.{prepend_known, Consumes}
use Rattle.std.proofs.lemmas.Bool.{and_parts}
use Rattle.std.proofs.lemmas.Bool.Decides.{nat_tests}
use Rattle.wire_io.specs.declared.lines.Line.TheVariants.{Text}
use Rattle.wire_io.specs.declared.lines.ReadError.{ReadError}
use Rattle.wire_io.specs.declared.lines.ReadError.TheVariants as read
use Rattle.wire_io.specs.Lines.{line, ended, stream_from}
use Rattle.wire_io.specs.Answers.{AnswersNext, IsPart, TakesLine, TakesLast, TakesBytes}
use Rattle.scenario.specs.declared.scenario.Scenario.{Scenario}
use Rattle.scenario.specs.declared.scenario.ScenarioError.TheVariants.{ReadFault}
use Rattle.scenario.specs.Scenario.{nothing, placed, with_line, scenario_from, scenario_of, AreEnded, FaultIsFirst, of_read}

-- a line and its newline, in front of more
stream_from-line : (body front more : List ℕ) (taken after : ℕ) → list_all (λ b. not (b == 10)) body ≡ true → length front + length body ≤ 4194304 → after ≡ taken + length body + 1 → after ≤ 26214400
    → stream_from taken front (body ++ 10 ∷ more) ≡ line (strip_carriage_return (front ++ body)) (stream_from after [] more)
stream_from-line [] front more taken after none short counts small =
    let room : nat_lt taken 26214400 ≡ true = grind (arith, nat_tests) in
    let next : taken + 1 ≡ after = omega arith in
    rw (room, next, append-nil front) refl
stream_from-line (b ∷ body) front more taken after none short counts small =
    let parts : (not (b == 10) ≡ true) × (list_all (λ c. not (c == 10)) body ≡ true) = and_parts _ _ none in
    let other : (b == 10) ≡ false = grind (arith, nat_tests) in
    let room : nat_lt taken 26214400 ≡ true = grind (arith, nat_tests) in
    let fits : nat_lt (length front) 4194304 ≡ true = grind (arith, nat_tests) in
    let more_is = stream_from-line body (front ++ b ∷ []) more (taken + 1) after parts.1 (omega (arith, length-append front (b ∷ []))) (omega arith) small in
    rw (other, fits, room) (more_is ∙ rw (append_assoc front (b ∷ []) body) refl)

-- these lines were taken, and say s
pub record Advanced (input now lines : List ℕ) (taken n : ℕ) (s : Scenario) : Type 0 where
  pub bytes : input ≡ lines ++ now
  pub counts : length lines ≡ taken
  pub ended : AreEnded lines
  pub goes_on : (more : List ℕ) → scenario_of (lines ++ more) ≡ scenario_from (stream_from taken [] more) n (Ok s)

-- all was taken, and says s
pub record Finished (input now : List ℕ) (taken : ℕ) (s : Scenario) : Type 0 where
  pub rest : now ≡ []
  pub counts : length input ≡ taken
  pub said : scenario_of input ≡ Ok s

-- the lines so far say s
abbrev pub Advances : Option (List ℕ) → ℕ → Option (List ℕ) → ℕ → Scenario → Type 0
Advances None taken now n s = Unit {0}
Advances (Some input) taken None n s = ⊥
Advances (Some input) taken (Some now) n s = ((lines : List ℕ) × Advanced input now lines taken n s) ⊎ Finished input now taken s

pub advances_first : (input : Option (List ℕ)) → Advances input 0 (prepend_known [] input) 0 nothing
advances_first None = tt
advances_first (Some input) = inl ([], record { bytes = refl; counts = refl; ended = inl refl; goes_on = λ more. refl })

advanced_by_line : (input now new lines text body : List ℕ) (taken after n : ℕ) (s next : Scenario) → after ≤ 26214400 → Advanced input now lines taken n s → TakesLine taken after (Some now) (Some new) text body → placed (n + 1) (with_line s (n + 1) text) ≡ Ok next
    → Advanced input new (lines ++ (body ++ 10 ∷ [])) after (n + 1) next
advanced_by_line input now new lines text body taken after n s next small so_far takes e =
    let told : (more : List ℕ) → stream_from taken [] (body ++ 10 ∷ more) ≡ line text (stream_from after [] more) =
    λ more. stream_from-line body [] more taken after takes.part.no_newline (omega (arith, takes.part.short)) takes.counts small ∙ ap (λ t. line t (stream_from after [] more)) (sym takes.is) in
    record {
      bytes = so_far.bytes ∙ ap (λ rest. lines ++ rest) takes.bytes ∙ sym (append_assoc lines (body ++ 10 ∷ []) new);
      counts = omega (arith, length-append lines (body ++ 10 ∷ []), length-append body (10 ∷ []), so_far.counts, takes.counts);
      ended = inr (lines ++ body, sym (append_assoc lines body (10 ∷ [])));
      goes_on = λ more.
          ap scenario_of (append_assoc lines (body ++ 10 ∷ []) more ∙ ap (λ rest. lines ++ rest) (append_assoc body (10 ∷ []) more))
          ∙ so_far.goes_on (body ++ 10 ∷ more) ∙ ap (λ stream. scenario_from stream n (Ok s)) (told more) ∙ ap (scenario_from (stream_from after [] more) (n + 1)) e;
    }

finished_by_last : (input now new lines text : List ℕ) (taken after n : ℕ) (s next : Scenario) → Advanced input now lines taken n s → TakesLast taken after (Some now) (Some new) text → stream_from taken [] now ≡ line text (stream_from after [] new) → placed (n + 1) (with_line s (n + 1) text) ≡ Ok next
    → Finished input new after next
finished_by_last input now new lines text taken after n s next so_far takes is e =
    record {
      rest = takes.bytes.1;
      counts = omega (arith, ap length so_far.bytes, length-append lines now, so_far.counts, ap length takes.bytes.0, takes.counts);
      said = ap scenario_of so_far.bytes ∙ so_far.goes_on now ∙ ap (λ stream. scenario_from stream n (Ok s)) is ∙ ap (scenario_from (stream_from after [] new) (n + 1)) e ∙ ap (λ rest. scenario_from (stream_from after [] rest) (n + 1) (Ok next)) takes.bytes.1;
    }

-- one line more
pub advances_by_line : (old now new : Option (List ℕ)) (taken after n : ℕ) (s next : Scenario) (text : List ℕ) → after ≤ 26214400 → Advances old taken now n s → TakesBytes taken after now new (Ok (Text text)) → AnswersNext taken now after new (Ok (Text text)) → placed (n + 1) (with_line s (n + 1) text) ≡ Ok next
    → Advances old after new (n + 1) next
advances_by_line None now new taken after n s next text small a t h e = tt
advances_by_line (Some input) None new taken after n s next text small a t h e = absurd a
advances_by_line (Some input) (Some now) None taken after n s next text small a t h e = absurd h
advances_by_line (Some input) (Some now) (Some new) taken after n s next text small (inl a) (inl t) h e =
    inl (a.0 ++ (t.0 ++ 10 ∷ []), advanced_by_line input now new a.0 text t.0 taken after n s next small a.1 t.1 e)
advances_by_line (Some input) (Some now) (Some new) taken after n s next text small (inl a) (inr t) h e =
    inr (finished_by_last input now new a.0 text taken after n s next a.1 t h e)
advances_by_line (Some input) (Some now) (Some new) taken after n s next text small (inr f) t h e =
    let none : ended ≡ line text (stream_from after [] new) = sym (ap (stream_from taken []) f.rest) ∙ h in absurd (cc)

none_in_front : (part left : List ℕ) → part ++ left ≡ [] → part ≡ []
none_in_front [] left h = refl
none_in_front (b ∷ part) left h = cc

none_behind : (part left : List ℕ) → part ++ left ≡ [] → left ≡ []
none_behind [] left h = h
none_behind (b ∷ part) left h = cc

-- a failed read after these lines
pub fault_is_first : (old now left : Option (List ℕ)) (taken n : ℕ) (s : Scenario) (part : List ℕ) → Advances old taken now n s → IsPart taken part → Consumes now (prepend_known [] left) part → FaultIsFirst old left
fault_is_first None now left taken n s part a p c = tt
fault_is_first (Some input) None left taken n s part a p c = absurd a
fault_is_first (Some input) (Some now) None taken n s part a p c = absurd c
fault_is_first (Some input) (Some now) (Some left) taken n s part (inl a) p c = (
  a.0,
  part,
  record {
    bytes = a.1.bytes ∙ ap (λ rest. a.0 ++ rest) c;
    ended = inl a.1.ended;
    accepted = ap (λ lines. is_ok (scenario_of lines)) (sym (append-nil a.0)) ∙ ap is_ok (a.1.goes_on []);
    within = subst (λ k. IsPart k part) (sym a.1.counts) p;
  },
)
fault_is_first (Some input) (Some now) (Some left) taken n s part (inr f) p c =
    let none : part ++ left ≡ [] = sym c ∙ f.rest in (
      input,
      part,
      record {
        bytes = sym (append-nil input) ∙ ap (λ rest. input ++ rest) (sym none);
        ended = inr none;
        accepted = ap is_ok f.said;
        within = subst (λ k. IsPart k part) (sym f.counts) p;
      },
    )

-- the refusal of a line that was not read is a failed read only where the read failed
pub fault_of_read : (old now left : Option (List ℕ)) (taken after n : ℕ) (s : Scenario) (ahead : List ℕ) (refused : ReadError) → Advances old taken now n s → TakesBytes taken after now (prepend_known ahead left) (Err refused) → (refused ≡ read.ReadFault → ahead ≡ [])
    → of_read refused ≡ ReadFault → FaultIsFirst old left
fault_of_read old now left taken after n s ahead read.Memory a t none is = absurd (cc)
fault_of_read old now left taken after n s ahead read.ReadFault a t none is =
    fault_is_first old now left taken n s t.0 a t.1 (subst (λ bytes. Consumes now (prepend_known bytes left) t.0) (none refl) t.2)
fault_of_read old now left taken after n s ahead read.LineTooLong a t none is = absurd (cc)
fault_of_read old now left taken after n s ahead read.InputTooLong a t none is = absurd (cc)
