use Rattle.std.proofs.Common.{◌≡◌, Ok, ap, not, sym, ◌∙◌, subst, true≢false}
use Rattle.std.specs.Cmp.Lexicographic.{bytes_decides}
use Rattle.base64.specs.Engines.{standard}
use Rattle.base64.specs.GeneralPurpose.{decode_of, IsDecodeFailure}
use Rattle.version_token.specs.Token.{pair_text, token_of}
use Rattle.version_token.proofs.TokenLaws.{decodes, no_token}
use Rattle.version_token.proofs.token.decode.Goals as goal

pub returns-in-Err-DecodeError-clause-exact : goal.returns-in-Err-DecodeError-clause-exact
returns-in-Err-DecodeError-clause-exact c = no_token c.args.text.now (λ n small is.
    let ok : decode_of standard c.as_bytes.result.now ≡ Ok (pair_text n) = ap (decode_of standard) (c.as_bytes.ensures.value ∙ is) ∙ decodes n small in
    let failed = subst (IsDecodeFailure standard c.as_bytes.result.now) c.in-Err-DecodeError.field-0-is c.in-Err-DecodeError.ensures.err in
    cc (ok, failed))

pub returns-in_default-clause-exact : goal.returns-in_default-clause-exact
returns-in_default-clause-exact c = no_token c.args.text.now (λ n small is.
    let ok : decode_of standard c.as_bytes.result.now ≡ Ok (pair_text n) = ap (decode_of standard) (c.as_bytes.ensures.value ∙ is) ∙ decodes n small in
    let pair : c.in-Ok.pair.items ≡ pair_text n = cc (ok, c.in-Ok.ensures.ok) in
    let found = c.number_in.ensures n small (c.deref.ensures.value ∙ pair) in
    cc (found, c.in_default.is))

pub returns-then-ne-clause-exact : goal.returns-then-ne-clause-exact
returns-then-ne-clause-exact c = no_token c.args.text.now (λ n small is.
    let ok : decode_of standard c.as_bytes.result.now ≡ Ok (pair_text n) = ap (decode_of standard) (c.as_bytes.ensures.value ∙ is) ∙ decodes n small in
    let pair : c.in-Ok.pair.items ≡ pair_text n = cc (ok, c.in-Ok.ensures.ok) in
    let found = c.number_in.ensures n small (c.deref.ensures.value ∙ pair) in
    let number : c.in-Some.number ≡ n = cc (found, c.in-Some.is) in
    let same : c.as_str.result.now ≡ c.args.text.now = c.as_str.ensures.value ∙ c.in_ok-token.ensures.text ∙ ap token_of number ∙ sym is in
    true≢false (sym c.if-ne.true ∙ c.ne.ensures ∙ ap not ((bytes_decides c.as_str.result.now c.args.text.now).1 same)))
