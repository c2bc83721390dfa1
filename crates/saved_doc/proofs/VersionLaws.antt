-- Versions within their range as a test.
use Rattle.std.proofs.Common.{◌≡◌, List, ℕ, Some, true}
use Rattle.std.proofs.lemmas.Bool.{and_parts, and_from, ltb-true, lt-ltb}
use Rattle.version_token.specs.Version.{ver_of, ver_text}
use Rattle.version_token.specs.declared.Ver.{Ver}
use Rattle.version_token.proofs.VersionLaws as version
use Rattle.saved_doc.specs.Stored.{is_version}

-- a version of the range reads back
pub ver_of-ver_text : (v : Ver) → is_version v ≡ true → ver_of (ver_text v) ≡ Some v
ver_of-ver_text v h =
    let p = and_parts _ _ h in
    let q = and_parts _ _ p.0 in
    version.ver_of-ver_text v (ltb-true _ _ q.0, ltb-true _ _ q.1, ltb-true _ _ p.1)

-- what was read is of the range
pub ver_of-range : (text : List ℕ) (v : Ver) → ver_of text ≡ Some v → is_version v ≡ true
ver_of-range text v h =
    let range = (version.ver_of-is text v h).1 in
    and_from _ _ (and_from _ _ (lt-ltb _ _ range.0) (lt-ltb _ _ range.1)) (lt-ltb _ _ range.2)
