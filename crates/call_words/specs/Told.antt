-- The answers of the definitions with tokens in the place of numbers, as the code gives them.
use Rattle.std.specs.Prelude.{map}
use Rattle.so_js.specs.declared.js.Js.{Js}
use Rattle.version_token.specs.Token.{token_of}
use Rattle.call_model.specs.Calls as model
use Rattle.call_model.specs.Calls.One.{Object as OneObject, Refused as OneRefused}
use Rattle.call_model.specs.Calls.Answer.{Object, Each, Deleted, Page, Spaces, Resolved, Refused}
use Rattle.call_words.specs.declared.answers.Shown.{Shown}
use Rattle.call_words.specs.declared.answers.One.{One}
use Rattle.call_words.specs.declared.answers.One.TheVariants as told_one
use Rattle.call_words.specs.declared.answers.Answer.{Answer}
use Rattle.call_words.specs.declared.answers.Answer.TheVariants as told

-- an object with the token of its row's number
abbrev pub shown_with_token : model.Shown Js → Shown
shown_with_token s = record {
  type_name = s.type_name;
  id = s.id;
  attributes = s.attributes;
  references = s.references;
  version = token_of s.number;
  stamp = s.stamp;
  core = s.core;
  origin = s.origin;
  updated_at = s.updated_at;
  namespaces = s.namespaces;
}

-- the answer to one item
abbrev pub one_with_token : model.One Js → One
one_with_token (OneObject s) = told_one.Object (shown_with_token s)
one_with_token (OneRefused r) = told_one.Refused r

-- the answer to a call
abbrev pub answer_with_token : model.Answer Js → Answer
answer_with_token (Object s) = told.Object (shown_with_token s)
answer_with_token (Each ones) = told.Each (map one_with_token ones)
answer_with_token Deleted = told.Deleted
answer_with_token (Page objects page per_page total) = told.Page (map shown_with_token objects) page per_page total
answer_with_token (Spaces spaces) = told.Spaces spaces
answer_with_token (Resolved s outcome alias_target) = told.Resolved (shown_with_token s) outcome alias_target
answer_with_token (Refused r) = told.Refused r
