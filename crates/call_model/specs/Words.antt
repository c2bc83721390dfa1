-- What calls do with attributes, operations, tokens and filters, which nothing here looks into.
use Rattle.std.specs.Prelude.{ℕ, Option}
use Rattle.base_model.specs.Keyed.{Text}
use Rattle.version_token.specs.declared.Ver.{Ver}
use Rattle.document_model.specs.Migrations.{Transforms}
use Rattle.query_model.specs.Queries.{Holds}

-- A: attributes; O: operations on them; F: filters
pub record Words (A O F : Type 0) : Type 0 where
  -- what migrating a document does with them
  pub transforms : Transforms A O
  -- the given members take the place of those of the same name
  pub merge : (old given : A) → A
  -- a member that is a text
  pub text_at : Text → A → Option Text
  -- the number that a token stands for
  pub token_number : Text → Option ℕ
  -- the alias of a version's index
  pub version_alias : Ver → Text
  -- the filter that a text is the form of
  pub read_filter : Text → Option F
  -- what a filter says of a document
  pub holds : Holds A F
