use Rattle.std.proofs.Common.{◌≡◌, ◌<◌, ◌^◌, ap, ◌∙◌, arith}
use Rattle.std.proofs.lemmas.Result.{IfOk-weaker}
use Rattle.base64.specs.Engines.{standard}
use Rattle.base64.specs.GeneralPurpose.{encode_of}
use Rattle.version_token.specs.Token.{pair_text, token_number}
use Rattle.version_token.proofs.TokenLaws.{token_number-token_of}
use Rattle.version_token.proofs.token.encode.Goals as goal

pub returns-clause-reads_back : goal.returns-clause-reads_back
returns-clause-reads_back c =
    let small : c.args.number < 2 ^ 64 = omega arith in
    let pair : c.as_bytes.result.now ≡ pair_text c.args.number = c.as_bytes.ensures.value ∙ c.in_ok-pair.ensures.ok in
    IfOk-weaker c.encode.result _ _ (λ token is. ap token_number (is ∙ ap (encode_of standard) pair) ∙ token_number-token_of c.args.number small) c.encode.ensures.text
