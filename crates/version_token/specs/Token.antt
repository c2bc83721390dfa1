-- The tokens of numbers.
use Rattle.std.specs.Prelude.{◌≡◌, ℕ, ◌^◌, ◌-◌, ◌&&◌, List, ◌++◌, length, take, drop, nat_lt, if◌then◌else◌, Option, Some, None, Result, Ok, Err, ⊤, decimal, codes}
use Rattle.std.specs.Str.{bytes_eq}
use Rattle.std.specs.Str.Parse.{digits_value}
use Rattle.base64.specs.declared.decode.DecodeError.{DecodeError}
use Rattle.base64.specs.Engines.{standard}
use Rattle.base64.specs.GeneralPurpose.{encode_of, decode_of}
use Rattle.version_token.specs.declared.token.TokenError.{TokenError}
use Rattle.version_token.specs.declared.token.TokenError.TheVariants.{Memory, BadToken}

-- the number and 1 as a list of JSON
abbrev pub pair_text : ℕ → List ℕ
pair_text number = codes "[" ++ decimal number ++ codes ",1]"

-- the base64 text of the number and 1
abbrev pub token_of : ℕ → List ℕ
token_of number = encode_of standard (pair_text number)

-- the number that stands where a pair has one
abbrev number_at : Result (List ℕ) DecodeError → ℕ
number_at (Ok pair) = digits_value 10 (take (length pair - 4) (drop 1 pair))
number_at (Err e) = 0

-- a number of 64 bits whose token is the text
abbrev if_token : List ℕ → ℕ → Option ℕ
if_token text number = if nat_lt number (2 ^ 64) && bytes_eq (token_of number) text then Some number else None

-- the number whose token the text is
unfoldable pub token_number : List ℕ → Option ℕ
token_number text = if_token text (number_at (decode_of standard text))

-- The call told the number, or that there is none, unless memory ran out.
abbrev Refuses : TokenError → Option ℕ → Type 0
Refuses Memory found = ⊤
Refuses BadToken found = found ≡ None

abbrev pub Tells : Result ℕ TokenError → Option ℕ → Type 0
Tells (Ok number) found = found ≡ Some number
Tells (Err e) found = Refuses e found
