-- The documents that reading gives.
use Rattle.std.specs.Prelude.{◌^◌, Bool, true, false, ◌&&◌, nat_lt, List, [], ◌∷◌, Option, Some, None}
use Rattle.std.specs.List.{list_all}
use Rattle.base_model.specs.Keyed.{Text}
use Rattle.document_model.specs.Documents.{Doc}
use Rattle.so_js.specs.declared.js.Js.{Js}
use Rattle.space_scope.specs.Spaces.{is_space_id}
use Rattle.version_token.specs.declared.Ver.{Ver}
use Rattle.saved_doc.specs.Reading.{is_listed_space}

-- true of what is there
abbrev pub if_there : {A : Type 0} → (A → Bool) → Option A → Bool
if_there test None = true
if_there test (Some x) = test x

-- three numbers of 64 bits
abbrev pub is_version : Ver → Bool
is_version v = nat_lt v.major (2 ^ 64) && nat_lt v.minor (2 ^ 64) && nat_lt v.patch (2 ^ 64)

-- spaces of a list that isn't empty
abbrev pub are_spaces : List Text → Bool
are_spaces [] = false
are_spaces (s ∷ more) = list_all is_listed_space (s ∷ more)

-- spaces with their form, and versions in their range
abbrev pub is_stored : Doc Js → Bool
is_stored d = if_there is_space_id d.namespace && if_there are_spaces d.namespaces && if_there is_version d.stamp && if_there is_version d.core
