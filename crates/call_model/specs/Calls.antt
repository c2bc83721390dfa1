-- Calls on objects, and what they answer.
use Rattle.std.specs.Prelude.{ℕ, Bool, List, Option}
use Rattle.base_model.specs.Keyed.{Text}
use Rattle.version_token.specs.declared.Ver.{Ver}
use Rattle.document_model.specs.declared.reference.Ref.{Ref}
use Rattle.query_model.specs.declared.parts.Target.{Target}
use Rattle.query_model.specs.declared.parts.Sort.{Sort}
use Rattle.call_model.specs.declared.refuse.Refuse.{Refuse}
use Rattle.call_model.specs.declared.refuse.MatchKind.{MatchKind}

-- the stamp that a new object comes with: none, the empty one, or a version
pub data Given : Type 0 where
  Latest : Given
  All : Given
  Above : Ver → Given

-- an object to create, with attributes of type A
pub record NewObject (A : Type 0) : Type 0 where
  pub type_name : Text
  pub id : Text
  pub attributes : A
  pub references : List Ref
  pub given : Given
  pub origin : Option Text

-- what an update replaces, and the token of the version that it was made from, if any
pub record Change (A : Type 0) : Type 0 where
  pub target : Target
  pub attributes : A
  pub references : Option (List Ref)
  pub token : Option Text

-- one change of one object: a call, or an item of a bulk call
pub data Act (A : Type 0) : Type 0 where
  Create : (object : NewObject A) → (overwrite : Bool) → (time : Option Text) → Act A
  Update : (change : Change A) → (time : Option Text) → Act A
  Delete : (target : Target) → (force : Bool) → Act A
  Share : (target : Target) → (add remove : List Text) → (time : Option Text) → Act A

-- what a search asks for
pub record Find : Type 0 where
  pub types : List Text
  pub page : ℕ
  pub per_page : ℕ
  pub sort : Sort
  pub descending : Bool
  pub reference : Option Target
  pub origin : Option Text
  pub filter : Option Text

-- a call, in a space
pub data Call (A : Type 0) : Type 0 where
  Changing : (space : Text) → (act : Act A) → Call A
  BulkCreating : (space : Text) → (objects : List (NewObject A)) → (overwrite : Bool) → (time : Option Text) → Call A
  Getting : (space : Text) → (target : Target) → Call A
  BulkGetting : (space : Text) → (targets : List Target) → Call A
  Resolving : (space : Text) → (target : Target) → Call A
  Finding : (space : Text) → (find : Find) → Call A

-- an object as it is shown; its version is the number of its row, of which the product shows the token
pub record Shown (A : Type 0) : Type 0 where
  pub type_name : Text
  pub id : Text
  pub attributes : A
  pub references : List Ref
  pub number : ℕ
  pub stamp : Option Ver
  pub core : Option Ver
  pub origin : Option Text
  pub updated_at : Option Text
  pub namespaces : Option (List Text)

-- the answer to one item of a bulk call
pub data One (A : Type 0) : Type 0 where
  Object : Shown A → One A
  Refused : Refuse → One A

-- the answer to a call
pub data Answer (A : Type 0) : Type 0 where
  Object : Shown A → Answer A
  Each : List (One A) → Answer A
  Deleted : Answer A
  Page : (objects : List (Shown A)) → (page per_page total : ℕ) → Answer A
  Spaces : List Text → Answer A
  Resolved : (object : Shown A) → (outcome : MatchKind) → (alias_target : Option Text) → Answer A
  Refused : Refuse → Answer A
