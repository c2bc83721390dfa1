-- What the calls of the code are in the definitions.
use Rattle.std.specs.Prelude.{map}
use Rattle.base_model.specs.Keyed.{Text}
use Rattle.so_js.specs.declared.js.Js.{Js}
use Rattle.query_model.specs.declared.parts.Target.{Target}
use Rattle.call_model.specs.Calls as model
use Rattle.call_model.specs.Calls.Given.{Latest, All, Above}
use Rattle.call_model.specs.Calls.Act.{Create, Update, Delete, Share}
use Rattle.call_model.specs.Calls.Call.{Changing, BulkCreating, Getting, BulkGetting, Resolving, Finding}
use Rattle.call_words.specs.declared.calls.Given.{Given}
use Rattle.call_words.specs.declared.calls.Given.TheVariants as given
use Rattle.call_words.specs.declared.calls.NewObject.{NewObject}
use Rattle.call_words.specs.declared.calls.Change.{Change}
use Rattle.call_words.specs.declared.calls.Find.{Find}
use Rattle.call_words.specs.declared.calls.Call.{Call}
use Rattle.call_words.specs.declared.calls.Call.TheVariants as call

abbrev pub given_of : Given → model.Given
given_of given.Latest = Latest
given_of given.All = All
given_of (given.Above v) = Above v

-- an object by its type and its id
abbrev pub target : (name id : Text) → Target
target name id = record { type_name = name; id = id }

-- an object to create
abbrev pub new_object_of : NewObject → model.NewObject Js
new_object_of o = record {
  type_name = o.type_name;
  id = o.id;
  attributes = o.attributes;
  references = o.references;
  given = given_of o.given;
  origin = o.origin;
}

-- what an update gives
abbrev pub change_of : Change → model.Change Js
change_of c = record {
  target = target c.type_name c.id;
  attributes = c.attributes;
  references = c.references;
  token = c.version;
}

-- what a find asks for
abbrev pub find_of : Find → model.Find
find_of f = record {
  types = f.types.now;
  page = f.page;
  per_page = f.per_page;
  sort = f.sort;
  descending = f.descending;
  reference = f.reference.now;
  origin = f.origin.now;
  filter = f.filter.now;
}

-- a call
abbrev pub call_of : Call → model.Call Js
call_of (call.Create space object overwrite time) = Changing space (Create (new_object_of object) overwrite time)
call_of (call.BulkCreate space objects overwrite time) = BulkCreating space (map new_object_of objects) overwrite time
call_of (call.Get space t) = Getting space t
call_of (call.Resolve space t) = Resolving space t
call_of (call.BulkGet space ts) = BulkGetting space ts
call_of (call.Update space change time) = Changing space (Update (change_of change) time)
call_of (call.Delete space t force) = Changing space (Delete t force)
call_of (call.Find space types page per_page sort descending reference origin filter) = Finding space (record {
  types = types;
  page = page;
  per_page = per_page;
  sort = sort;
  descending = descending;
  reference = reference;
  origin = origin;
  filter = filter;
})
call_of (call.Share space t add remove time) = Changing space (Share t add remove time)
