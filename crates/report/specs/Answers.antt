-- What is printed for the answers of object calls.
use Rattle.std.specs.Prelude.{ℕ, pos, List, [], ◌∷◌, map, codes, Option, Some, None, option_map}
use Rattle.base_model.specs.Keyed.{Text}
use Rattle.so_js.specs.declared.js.Js.{Js}
use Rattle.so_js.specs.declared.js.Js.TheVariants.{Null, Whole, Str, Items}
use Rattle.saved_doc.specs.Writing.{ver_js, refs_js, spaces_js}
use Rattle.call_model.specs.declared.refuse.Refuse.{Refuse}
use Rattle.call_model.specs.declared.refuse.Refuse.TheVariants as refuse
use Rattle.call_model.specs.declared.refuse.MatchKind.{MatchKind}
use Rattle.call_model.specs.declared.refuse.MatchKind.TheVariants as match
use Rattle.call_words.specs.declared.answers.Shown.{Shown}
use Rattle.call_words.specs.declared.answers.One.{One}
use Rattle.call_words.specs.declared.answers.One.TheVariants as one
use Rattle.call_words.specs.declared.answers.Answer.{Answer}
use Rattle.call_words.specs.declared.answers.Answer.TheVariants as answer
use Rattle.report.specs.declared.answers.AnswerAt.{AnswerAt}
use Rattle.report.specs.declared.answers.AnswerAt.TheVariants.{Input, Actor}
use Rattle.report.specs.declared.fields.Field.{Field}
use Rattle.report.specs.Members.{always, optional, object_of}

-- a number that isn't negative
abbrev pub number_js : ℕ → Js
number_js n = Whole (pos n)

-- a number, or null for none
abbrev pub number_or_null : Option ℕ → Js
number_or_null None = Null
number_or_null (Some n) = number_js n

-- ---- objects

-- the members of an object, in order of key
abbrev pub object_fields : Shown → List Field
object_fields s =
    always (codes "attributes") s.attributes
    ∷ optional (codes "coreMigrationVersion") (option_map ver_js s.core)
    ∷ always (codes "id") (Str s.id)
    ∷ optional (codes "namespaces") (option_map spaces_js s.namespaces)
    ∷ optional (codes "originId") (option_map Str s.origin)
    ∷ always (codes "references") (refs_js s.references)
    ∷ always (codes "type") (Str s.type_name)
    ∷ optional (codes "typeMigrationVersion") (option_map ver_js s.stamp)
    ∷ optional (codes "updated_at") (option_map Str s.updated_at)
    ∷ always (codes "version") (Str s.version)
    ∷ []

-- an object as it is shown
abbrev pub object_js : Shown → Js
object_js s = object_of (object_fields s)

-- ---- refusals

-- a refusal's number and its name
abbrev pub code_of : Refuse → ℕ
code_of refuse.NotFound = 1
code_of refuse.Conflict = 2
code_of refuse.UnsupportedType = 3
code_of refuse.BadId = 4
code_of refuse.BadSpace = 5
code_of refuse.BadToken = 6
code_of refuse.WriteBlocked = 7
code_of refuse.NotReady = 8
code_of refuse.NeedsForce = 9
code_of refuse.TooNew = 10
code_of (refuse.Busy seen now) = 11
code_of refuse.BadPage = 12
code_of refuse.BadFilter = 13

abbrev pub name_of : Refuse → Text
name_of refuse.NotFound = codes "NotFound"
name_of refuse.Conflict = codes "Conflict"
name_of refuse.UnsupportedType = codes "UnsupportedType"
name_of refuse.BadId = codes "BadId"
name_of refuse.BadSpace = codes "BadSpace"
name_of refuse.BadToken = codes "BadToken"
name_of refuse.WriteBlocked = codes "WriteBlocked"
name_of refuse.NotReady = codes "NotReady"
name_of refuse.NeedsForce = codes "NeedsForce"
name_of refuse.TooNew = codes "TooNew"
name_of (refuse.Busy seen now) = codes "Busy"
name_of refuse.BadPage = codes "BadPage"
name_of refuse.BadFilter = codes "BadFilter"

-- the numbers that a call met
abbrev pub now_of : Refuse → Option Js
now_of (refuse.Busy seen now) = Some (number_or_null now)
now_of _ = None

abbrev pub seen_of : Refuse → Option Js
seen_of (refuse.Busy seen now) = Some (number_or_null seen)
seen_of _ = None

abbrev pub refuse_js : Refuse → Js
refuse_js r = object_of (
    always (codes "code") (number_js (code_of r))
    ∷ always (codes "name") (Str (name_of r))
    ∷ optional (codes "now") (now_of r)
    ∷ optional (codes "seen") (seen_of r)
    ∷ [])

-- ---- answers

-- what a call gave, or why it was refused
abbrev pub ok_js : Js → Js
ok_js js = object_of (always (codes "ok") js ∷ [])

abbrev pub error_js : Refuse → Js
error_js r = object_of (always (codes "error") (refuse_js r) ∷ [])

-- the answer to one item of a bulk call
abbrev pub one_js : One → Js
one_js (one.Object s) = ok_js (object_js s)
one_js (one.Refused r) = error_js r

abbrev pub page_js : List Shown → ℕ → ℕ → ℕ → Js
page_js objects page per_page total = object_of (
    always (codes "objects") (Items (map object_js objects))
    ∷ always (codes "page") (number_js page)
    ∷ always (codes "perPage") (number_js per_page)
    ∷ always (codes "total") (number_js total)
    ∷ [])

abbrev pub outcome_name : MatchKind → Text
outcome_name match.ExactMatch = codes "exactMatch"
outcome_name match.AliasMatch = codes "aliasMatch"
outcome_name match.Conflict = codes "conflict"

abbrev pub resolved_fields : Shown → MatchKind → Option Text → List Field
resolved_fields s outcome target =
    optional (codes "aliasTargetId") (option_map Str target)
    ∷ always (codes "object") (object_js s)
    ∷ always (codes "outcome") (Str (outcome_name outcome))
    ∷ []

abbrev pub answer_js : Answer → Js
answer_js (answer.Object s) = ok_js (object_js s)
answer_js (answer.Each ones) = ok_js (Items (map one_js ones))
answer_js answer.Deleted = ok_js (object_of [])
answer_js (answer.Page objects page per_page total) = ok_js (page_js objects page per_page total)
answer_js (answer.Spaces spaces) = ok_js (object_of (always (codes "namespaces") (spaces_js spaces) ∷ []))
answer_js (answer.Resolved s outcome target) = ok_js (object_of (resolved_fields s outcome target))
answer_js (answer.Refused r) = error_js r

-- ---- lines

-- an answer with the place of its call
abbrev pub placed_js : AnswerAt → Js → Js
placed_js (Input at) answer = object_of (
    always (codes "answer") answer
    ∷ always (codes "at") (number_js at)
    ∷ always (codes "line") (Str (codes "answer"))
    ∷ [])
placed_js (Actor actor tag) answer = object_of (
    always (codes "actor") (number_js actor)
    ∷ always (codes "answer") answer
    ∷ always (codes "line") (Str (codes "answer"))
    ∷ always (codes "tag") (number_js tag)
    ∷ [])

abbrev pub answer_line_js : AnswerAt → Answer → Js
answer_line_js at a = placed_js at (answer_js a)
