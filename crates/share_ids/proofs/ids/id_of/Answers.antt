use Rattle.std.proofs.Common.{◌++◌, ap, ◌∙◌, take}
use Rattle.sha1.specs.Sha1.{sha1}
use Rattle.uuid.specs.Parts.{with_version, with_variant}
use Rattle.uuid.specs.Text.{hyphenated_text, lower}
use Rattle.uuid.specs.declared.Version.TheVariants.{Sha1}
use Rattle.uuid.specs.declared.Variant.TheVariants.{RFC4122}
use Rattle.share_ids.specs.Ids.{dns_namespace}
use Rattle.share_ids.proofs.ids.id_of.Goals as goal

pub returns : goal.returns
returns c =
    let id = c.new_v5-id.ensures.value ∙ ap (λ name. with_version (with_variant (take 16 (sha1 (dns_namespace ++ name))) RFC4122) Sha1) c.as_bytes.ensures.value in
    c.from_string.ensures ∙ c.in_ok-text.ensures ∙ ap (hyphenated_text lower) id
