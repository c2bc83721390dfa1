-- The token of a number is read as the number.
use Rattle.std.proofs.Common.{◌≡◌, ℕ, ◌-◌, ◌<◌, ◌^◌, List, ◌++◌, length, take, drop, Bool, true, false, cond, ◌&&◌, nat_lt, Option, Some, None, Ok, decimal, codes, refl, sym, ap, ◌∙◌, arith, length-append, rules}
use Rattle.std.proofs.lemmas.Bool.{and_parts, and_from}
use Rattle.std.proofs.lemmas.Bool.Decides.{nat_tests}
use Rattle.std.proofs.lemmas.Fmt.{IsAscii-decimal, decimal_is_IsNumeral}
use Rattle.std.proofs.lemmas.List.{take_at}
use Rattle.std.proofs.lemmas.Slice.Eq.{bytes_eq-Decides}
use Rattle.std.proofs.lemmas.Str.{IsAscii-append}
use Rattle.std.specs.Str.{IsAscii, bytes_eq}
use Rattle.std.specs.Str.Parse.{digits_value}
use Rattle.base64.specs.Engines.{standard}
use Rattle.base64.specs.GeneralPurpose.{decode_of, IsBytes}
use Rattle.base64.proofs.EngineFacts.{decode_of-encode_of}
use Rattle.version_token.specs.Token.{pair_text, token_of, token_number}

open_ascii : IsAscii (codes "[")
open_ascii = search rules

close_ascii : IsAscii (codes ",1]")
close_ascii = search rules

-- a pair is ASCII
pub IsAscii-pair_text : (n : ℕ) → n < 2 ^ 64 → IsAscii (pair_text n)
IsAscii-pair_text n h = IsAscii-append (codes "[") (decimal n ++ codes ",1]") open_ascii (IsAscii-append (decimal n) (codes ",1]") (IsAscii-decimal n h) close_ascii)

pub IsBytes-pair_text : (n : ℕ) → n < 2 ^ 64 → IsBytes (pair_text n)
IsBytes-pair_text n h = λ i. omega (arith, IsAscii-pair_text n h i)

-- the digits before the end of a pair
pub before_end : (digits : List ℕ) → take (length (digits ++ codes ",1]") - 3) (digits ++ codes ",1]") ≡ digits
before_end digits = take_at digits (codes ",1]") (length (digits ++ codes ",1]") - 3) (omega (arith, length-append digits (codes ",1]")))

-- what a token decodes to
pub decodes : (n : ℕ) → n < 2 ^ 64 → decode_of standard (token_of n) ≡ Ok (pair_text n)
decodes n h = decode_of-encode_of standard (pair_text n) refl (IsBytes-pair_text n h)

kept : (text : List ℕ) (n m : ℕ) → m ≡ n → n < 2 ^ 64 → text ≡ token_of n → cond (nat_lt m (2 ^ 64) && bytes_eq (token_of m) text) (Some m) None ≡ Some n
kept text n m same small is =
    let fits : nat_lt m (2 ^ 64) ≡ true = rw same (grind (arith, nat_tests)) in
    let alike : bytes_eq (token_of m) text ≡ true = (bytes_eq-Decides (token_of m) text).1 (ap token_of same ∙ sym is) in
    ap (λ b. cond b (Some m) None) (and_from _ _ fits alike) ∙ ap Some same

value_of_pair : (n : ℕ) → n < 2 ^ 64 → digits_value 10 (take (length (pair_text n) - 4) (drop 1 (pair_text n))) ≡ n
value_of_pair n h =
    let digits : take (length (pair_text n) - 4) (drop 1 (pair_text n)) ≡ decimal n = ap (λ k. take k (decimal n ++ codes ",1]")) (omega arith) ∙ before_end (decimal n) in
    ap (digits_value 10) digits ∙ (decimal_is_IsNumeral n h).1

pub token_number-token_of : (n : ℕ) → n < 2 ^ 64 → token_number (token_of n) ≡ Some n
unfolding token_number
token_number-token_of n h = rw (decodes n h) (kept (token_of n) n _ (value_of_pair n h) h refl)

told : (text : List ℕ) (m n : ℕ) (b : Bool) → (nat_lt m (2 ^ 64) && bytes_eq (token_of m) text) ≡ b → cond b (Some m) None ≡ Some n → (text ≡ token_of n) × (n < 2 ^ 64)
told text m n true test is =
    let parts = and_parts (nat_lt m (2 ^ 64)) (bytes_eq (token_of m) text) test in
    let same : m ≡ n = cc in
    (sym ((bytes_eq-Decides (token_of m) text).0 parts.1) ∙ ap token_of same, rw (sym same) (grind (arith, nat_tests)))
told text m n false test is = cc

-- only a token has a number
pub number_has_token : (text : List ℕ) (n : ℕ) → token_number text ≡ Some n → (text ≡ token_of n) × (n < 2 ^ 64)
unfolding token_number
number_has_token text n is = told text _ n _ refl is

none_or_token : (text : List ℕ) (o : Option ℕ) → token_number text ≡ o → ((n : ℕ) → n < 2 ^ 64 → ¬ (text ≡ token_of n)) → o ≡ None
none_or_token text None is never = refl
none_or_token text (Some n) is never = let h = number_has_token text n is in absurd (never n h.1 h.0)

-- a text that is no token has no number
pub no_token : (text : List ℕ) → ((n : ℕ) → n < 2 ^ 64 → ¬ (text ≡ token_of n)) → token_number text ≡ None
no_token text never = none_or_token text (token_number text) refl never
