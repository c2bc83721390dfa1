use Rattle.std.proofs.Common.{◌≡◌, ◌-◌, ◌++◌, ℕ, List, decimal, codes, length, take, drop, sym, ap, ◌∙◌, subst}
use Rattle.std.proofs.lemmas.Fmt.{IsAscii-decimal, parse-decimal}
use Rattle.std.proofs.lemmas.Str.{IsUtf8-from_ascii}
use Rattle.std.specs.Result.{result_ok}
use Rattle.std.specs.Str.{IsUtf8}
use Rattle.version_token.specs.Token.{pair_text}
use Rattle.version_token.proofs.TokenLaws.{before_end}
use Rattle.version_token.proofs.token.number_in.Goals as goal

-- what is left without the front and the end
digits_left : (pair inner digits : List ℕ) (n : ℕ) → pair ≡ pair_text n → inner ≡ drop 1 pair → digits ≡ take (length inner - 3) inner → digits ≡ decimal n
digits_left pair inner digits n is front end =
    let within : inner ≡ decimal n ++ codes ",1]" = front ∙ ap (drop 1) is in
    end ∙ ap (λ xs. take (length xs - 3) xs) within ∙ before_end (decimal n)

pub returns-in_default : goal.returns-in_default
returns-in_default c = λ n small is.
    let digits = digits_left _ _ _ n is c.in_ok-inner.ensures.cases.1 c.in_ok-digits.ensures.cases.1 in
    absurd (c.in_default.ensures.cases.0 (subst IsUtf8 (sym digits) (IsUtf8-from_ascii (decimal n) (IsAscii-decimal n small))))

pub returns : goal.returns
returns c = λ n small is.
    let digits = digits_left _ _ _ n is c.in_ok-inner.ensures.cases.1 c.in_ok-digits.ensures.cases.1 in
    c.ok.ensures.value ∙ ap result_ok (parse-decimal 64 n _ c.parse.result small small (c.in-Ok.ensures.cases.0 ∙ digits) c.parse.ensures.value.0)
