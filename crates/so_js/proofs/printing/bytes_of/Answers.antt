use Rattle.std.proofs.Common.{◌≡◌, IsUtf8, string_bytes, sym, ap, ◌∙◌, subst}
use Rattle.std.proofs.lemmas.Str.{IsUtf8-string_bytes}
use Rattle.so_js.proofs.printing.bytes_of.Goals as goal

pub returns-clause-utf8 : goal.returns-clause-utf8
returns-clause-utf8 c =
    let is : c.from_vec.result ≡ string_bytes c.args.text = c.from_vec.ensures ∙ ap (λ v. v.items) c.into_bytes.ensures.value in
    subst IsUtf8 (sym is) (IsUtf8-string_bytes c.args.text)
