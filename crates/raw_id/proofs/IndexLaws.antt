-- The names of versions are apart, and a name tells its version.
use Rattle.std.proofs.Common.{◌≡◌, ◌≢◌, ℕ, ◌<◌, ◌^◌, [], ◌∷◌, ◌++◌, Bool, true, false, cond, Option, Some, None, option_and_then, decimal, codes, refl, ap, ◌∙◌, arith, subst}
use Rattle.std.proofs.lemmas.Fmt.{decimal_is_IsNumeral}
use Rattle.std.proofs.lemmas.Str.Parse.{digit_at}
use Rattle.std.specs.Str.Parse.{AllDigits}
use Rattle.base_model.specs.Keyed.{Text}
use Rattle.document_model.specs.Documents.{after}
use Rattle.version_token.specs.declared.Ver.{Ver}
use Rattle.version_token.specs.Version.{ver_of, ver_text, IsVer}
use Rattle.version_token.proofs.VersionLaws.{ver_of-ver_text, ver_of-is}
use Rattle.raw_id.specs.IndexNames.{front, version_alias, target, temp, are_digits, underscore, cut, name_parts, version_of_parts, version_in, HasVersion}
use Rattle.raw_id.proofs.Splits.{Lacks, Lacks-append, inside, one_split, cut-at, cut-is, after-append, after-is, after-none}

lacks_digits : (ds : Text) → AllDigits 10 ds → Lacks underscore ds
lacks_digits [] h = tt
lacks_digits (d ∷ ds) h = let first = digit_at (d ∷ ds) 0 h (omega arith) in (λ e. absurd (omega (arith, first.1, e)), lacks_digits ds h.1)

lacks_decimal : (n : ℕ) → n < 2 ^ 64 → Lacks underscore (decimal n)
lacks_decimal n h = lacks_digits (decimal n) (decimal_is_IsNumeral n h).0.1

lacks_dot : Lacks underscore (codes ".")
lacks_dot = (λ e. absurd (omega (arith, e)), tt)

-- the text of a version has no `_`
pub lacks_ver_text : (v : Ver) → IsVer v → Lacks underscore (ver_text v)
lacks_ver_text v h =
    Lacks-append underscore (decimal v.major) _ (lacks_decimal v.major h.0) (
    Lacks-append underscore (codes ".") _ lacks_dot (
    Lacks-append underscore (decimal v.minor) _ (lacks_decimal v.minor h.1) (
    Lacks-append underscore (codes ".") _ lacks_dot (lacks_decimal v.patch h.2))))

-- versions are told by their texts
pub one_version : (v w : Ver) → IsVer v → IsVer w → ver_text v ≡ ver_text w → v ≡ w
one_version v w i j e =
    let first = ver_of-ver_text v i in
    let second = ap ver_of e ∙ ver_of-ver_text w j in
    cc (first, second)

-- ---- names

no_suffix : (v w : Ver) (suffix : Text) → IsVer v → ver_text v ≢ ver_text w ++ underscore ∷ suffix
no_suffix v w suffix i e = inside underscore (ver_text w) suffix (subst (Lacks underscore) e (lacks_ver_text v i))

one_suffix : (v w : Ver) (x y : Text) → IsVer v → IsVer w → ver_text v ++ underscore ∷ x ≡ ver_text w ++ underscore ∷ y → (ver_text v ≡ ver_text w) × (x ≡ y)
one_suffix v w x y i j e = one_split underscore (ver_text v) (ver_text w) x y (lacks_ver_text v i) (lacks_ver_text w j) e

pub target_temp : (v w : Ver) → IsVer v → IsVer w → target v ≢ temp w
target_temp v w i j e =
    let rest : ver_text v ++ underscore ∷ codes "001" ≡ ver_text w ++ underscore ∷ codes "reindex_temp" = cc in
    let same = (one_suffix v w (codes "001") (codes "reindex_temp") i j rest).1 in
    let digit : ◌≡◌ {A = ℕ} 48 114 = cc in
    absurd (omega (arith, digit))

pub alias_target : (v w : Ver) → IsVer v → IsVer w → version_alias v ≢ target w
alias_target v w i j e = let rest : ver_text v ≡ ver_text w ++ underscore ∷ codes "001" = cc in no_suffix v w (codes "001") i rest

pub alias_temp : (v w : Ver) → IsVer v → IsVer w → version_alias v ≢ temp w
alias_temp v w i j e = let rest : ver_text v ≡ ver_text w ++ underscore ∷ codes "reindex_temp" = cc in no_suffix v w (codes "reindex_temp") i rest

pub one_alias : (v w : Ver) → IsVer v → IsVer w → version_alias v ≡ version_alias w → v ≡ w
one_alias v w i j e = let rest : ver_text v ≡ ver_text w = cc in one_version v w i j rest

pub one_target : (v w : Ver) → IsVer v → IsVer w → target v ≡ target w → v ≡ w
one_target v w i j e =
    let rest : ver_text v ++ underscore ∷ codes "001" ≡ ver_text w ++ underscore ∷ codes "001" = cc in
    one_version v w i j (one_suffix v w (codes "001") (codes "001") i j rest).0

pub one_temp : (v w : Ver) → IsVer v → IsVer w → temp v ≡ temp w → v ≡ w
one_temp v w i j e =
    let rest : ver_text v ++ underscore ∷ codes "reindex_temp" ≡ ver_text w ++ underscore ∷ codes "reindex_temp" = cc in
    one_version v w i j (one_suffix v w (codes "reindex_temp") (codes "reindex_temp") i j rest).0

-- ---- the version of a name

pub version_in-has : (name : Text) (v : Ver) → HasVersion name v → version_in name ≡ Some v
unfolding version_in name_parts
version_in-has name v h =
    let rest : after front name ≡ Some (ver_text v ++ underscore ∷ h.0) = ap (after front) h.3 ∙ after-append front (ver_text v ++ underscore ∷ h.0) in
    let parts : cut underscore (ver_text v ++ underscore ∷ h.0) ≡ Some (ver_text v, h.0) = cut-at underscore (ver_text v) h.0 (lacks_ver_text v h.2) in
    rw (rest, parts, h.1) (ver_of-ver_text v h.2)

if_digits : (t : Bool) (name version digits : Text) (v : Ver) → are_digits digits ≡ t → cond t (ver_of version) None ≡ Some v → name ≡ front ++ (version ++ underscore ∷ digits) → HasVersion name v
if_digits true name version digits v test is whole =
    let read = ver_of-is version v is in
    (digits, test, read.1, whole ∙ ap (λ t. front ++ (t ++ underscore ∷ digits)) read.0)
if_digits false name version digits v test is whole = cc

in_parts : (name rest : Text) (o : Option (Text × Text)) (v : Ver) → cut underscore rest ≡ o → option_and_then version_of_parts o ≡ Some v → name ≡ front ++ rest → HasVersion name v
in_parts name rest None v found is whole = cc
in_parts name rest (Some parts) v found is whole =
    if_digits (are_digits parts.1) name parts.0 parts.1 v refl is (whole ∙ ap (λ t. front ++ t) (cut-is underscore rest parts.0 parts.1 found))

in_rest : (name : Text) (o : Option Text) (v : Ver) → after front name ≡ o → option_and_then version_of_parts (option_and_then (cut underscore) o) ≡ Some v → HasVersion name v
in_rest name None v found is = cc
in_rest name (Some rest) v found is = in_parts name rest (cut underscore rest) v refl is (after-is front name rest found)

pub has-version_in : (name : Text) (v : Ver) → version_in name ≡ Some v → HasVersion name v
unfolding version_in name_parts
has-version_in name v is = in_rest name (after front name) v refl is

pub version_in-target : (v : Ver) → IsVer v → version_in (target v) ≡ Some v
version_in-target v i = version_in-has (target v) v (codes "001", refl, i, refl)

-- ---- the parts of a name

pub no_parts : (name : Text) → ((rest : Text) → name ≢ front ++ rest) → name_parts name ≡ None
unfolding name_parts
no_parts name never = ap (option_and_then (cut underscore)) (after-none front name never)

pub parts_after : (name rest : Text) → name ≡ front ++ rest → name_parts name ≡ cut underscore rest
unfolding name_parts
parts_after name rest is = ap (option_and_then (cut underscore)) (ap (after front) is ∙ after-append front rest)
