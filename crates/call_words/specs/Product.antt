-- What calls do with attributes, operations, tokens and filters in the product.
use Rattle.std.specs.Prelude.{List, [], ◌∷◌, Option, Some, option_map, option_and_then}
use Rattle.base_model.specs.Keyed.{Text}
use Rattle.so_js.specs.Tree.{text_of, object_of, member_of}
use Rattle.so_js.specs.declared.js.Js.{Js}
use Rattle.so_js.specs.declared.js.Js.TheVariants.{Object}
use Rattle.so_js.specs.declared.js.Member.{Member}
use Rattle.transform_ops.specs.Attributes.{with_value}
use Rattle.transform_ops.specs.declared.op.Op.{Op}
use Rattle.doc_transform.specs.Transforming.{effects}
use Rattle.version_token.specs.Token.{token_number}
use Rattle.raw_id.specs.IndexNames.{version_alias}
use Rattle.kql_filter.specs.Parsing.{tree_in}
use Rattle.doc_query.specs.Mapped.{holds_of}
use Rattle.call_model.specs.Words.{Words}

-- each given member in the place of the one of its key, and at its place in the order of keys where there is none
unfoldable pub with_members : (given old : List (Member Js)) → List (Member Js)
with_members [] old = old
with_members (m ∷ given) old = with_members given (with_value m.key m.value old)

abbrev pub merged_over : (old given : Option (List (Member Js))) → Js → Js
merged_over (Some old) (Some given) js = Object (with_members given old)
merged_over _ _ js = js

-- the given top-level members take the place of those of the same key, and all others stay
abbrev pub merged : (old given : Js) → Js
merged old given = merged_over (object_of old) (object_of given) old

-- the text under a key
abbrev pub text_at : Text → Js → Option Text
text_at key js = option_and_then text_of (member_of key js)

-- a text that is a filter stands for itself
abbrev pub filter_in : Text → Option Text
filter_in text = option_map (λ tree. text) (tree_in text)

abbrev pub product_words : Words Js Op Text
product_words = record {
  transforms = effects;
  merge = merged;
  text_at = text_at;
  token_number = token_number;
  version_alias = version_alias;
  read_filter = filter_in;
  holds = holds_of;
}
