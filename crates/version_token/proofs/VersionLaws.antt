-- The text of a version is read as the version, and only its text is.
use Rattle.std.proofs.Common.{◌≡◌, ℕ, ◌==◌, ◌++◌, List, [], ◌∷◌, length, Bool, true, false, cond, ◌&&◌, Some, None, Result, Ok, Err, decimal, refl, sym, ap, ◌∙◌, append-nil, arith}
use Rattle.std.proofs.lemmas.Bool.{and_parts, eqb-true}
use Rattle.semver.specs.Identifiers.{parts_text}
use Rattle.semver.specs.Parse.{Parts, version_parts}
use Rattle.semver.specs.declared.error.Error.{Error}
use Rattle.semver.proofs.Grammar.{version_parts-sound, version_parts-complete}
use Rattle.version_token.specs.declared.Ver.{Ver}
use Rattle.version_token.specs.Version.{ver_of, ver_text, plain, IsVer}

abbrev parts_of : Ver → Parts
parts_of v = (v.major, v.minor, v.patch, [], [])

text_of_parts : (v : Ver) → parts_text (parts_of v) ≡ ver_text v
text_of_parts v = ap (λ patch. decimal v.major ++ (46 ∷ (decimal v.minor ++ (46 ∷ patch)))) (append-nil (decimal v.patch))

pub ver_of-ver_text : (v : Ver) → IsVer v → ver_of (ver_text v) ≡ Some v
ver_of-ver_text v h =
    let read : version_parts (ver_text v) ≡ Ok (parts_of v) = ap version_parts (sym (text_of_parts v)) ∙ version_parts-complete (parts_of v) (h.0, h.1, h.2, refl, refl) in
    ap plain read

empty_of : (xs : List ℕ) → (length xs == 0) ≡ true → xs ≡ []
empty_of [] h = refl
empty_of (x ∷ xs) h = absurd (omega (arith, eqb-true (length (x ∷ xs)) 0 h))

plain_parts : (a b c : ℕ) (pre build : List ℕ) (v : Ver) (test : Bool) → ((length pre == 0) && (length build == 0)) ≡ test
    → cond test (Some (record { major = a; minor = b; patch = c })) None ≡ Some v → (a, b, c, pre, build) ≡ parts_of v
plain_parts a b c pre build v true holds is =
    let parts = and_parts (length pre == 0) (length build == 0) holds in
    let none : pre ≡ [] = empty_of pre parts.0 in
    let nothing : build ≡ [] = empty_of build parts.1 in
    cc
plain_parts a b c pre build v false holds is = cc

read_as : (text : List ℕ) (r : Result Parts Error) (v : Ver) → version_parts text ≡ r → plain r ≡ Some v → (text ≡ ver_text v) × IsVer v
read_as text (Err e) v reads is = cc
read_as text (Ok p) v reads is =
    let same : p ≡ parts_of v = plain_parts p.0 p.1 p.2 p.3 p.4 v _ refl is in
    let sound = version_parts-sound text (parts_of v) (reads ∙ ap Ok same) in
    (sym sound.0 ∙ text_of_parts v, (sound.1.0, sound.1.1, sound.1.2))

-- a text that is read as a version is the version's text
pub ver_of-is : (text : List ℕ) (v : Ver) → ver_of text ≡ Some v → (text ≡ ver_text v) × IsVer v
ver_of-is text v is = read_as text (version_parts text) v refl is
