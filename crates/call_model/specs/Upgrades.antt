-- What a race of migrations is of, where documents, queries, clients and registries are as they are.
use Rattle.std.specs.Prelude.{ℕ, Bool, true, false, not, ◌&&◌, List, [], ◌∷◌, ◌++◌, Option, Some, None}
use Rattle.base_model.specs.Keyed.{Text, Keyed}
use Rattle.race_model.specs.Machines.{Settings}
use Rattle.race_model.specs.Stores.{Table}
use Rattle.race_model.specs.Worlds.{Race}
use Rattle.race_model.specs.Openings.{Opening, Scenario}
use Rattle.race_model.specs.Openings.Opening.{NoGeneration, OneGeneration}
use Rattle.version_token.specs.declared.Ver.{Ver}
use Rattle.document_model.specs.Documents.{ver_lt, below, Doc}
use Rattle.document_model.specs.Registries.{Known, Registry, alias_type, known, latest, type_names}
use Rattle.document_model.specs.Migrations.{outcome}
use Rattle.query_model.specs.declared.parts.TypeVer.{TypeVer}
use Rattle.query_model.specs.declared.parts.Sort.TheVariants.{Raw}
use Rattle.query_model.specs.Queries.{Query, select}
use Rattle.call_model.specs.Words.{Words}
use Rattle.call_model.specs.Acts.{latest_of}
use Rattle.call_model.specs.Scripts.{Script, clients}

-- a stamp isn't below the latest version, where there is one
abbrev pub up_to_date : Option Ver → Option Ver → Bool
up_to_date None stamp = true
up_to_date (Some l) stamp = not (below stamp l)

-- the document's stamp isn't below the latest version of its type, where its type has one
unfoldable pub is_fresh : {A O : Type 0} → Registry O → Doc A → Bool
is_fresh reg doc = up_to_date (latest_of (known reg doc.type_name)) doc.stamp

-- the names of indices, by their versions
pub record Named : Type 0 where
  -- the current alias
  pub current : Text
  pub target : Ver → Text
  -- the temporary index
  pub temp : Ver → Text
  -- the version in an index's name
  pub version_in : Text → Option Ver
  -- a version as a text
  pub text : Ver → Text

-- a type with its latest version before the others
abbrev pub with_latest : Text → Option Ver → List TypeVer → List TypeVer
with_latest name None rest = rest
with_latest name (Some v) rest = record { name = name; latest = v } ∷ rest

-- the types that have a latest version
abbrev pub latests : {O : Type 0} → Keyed (Known O) → List TypeVer
latests [] = []
latests (t ∷ ts) = with_latest t.0 (latest t.1) (latests ts)

-- a query by other members than those of a search for objects
abbrev pub plain_query : {F : Type 0} → List Text → List TypeVer → Option Text → Option ℕ → Query F
plain_query not_types outdated after limit = record {
  types = None;
  not_types = not_types;
  space = None;
  reference = None;
  origin = None;
  outdated = outdated;
  after = after;
  sort = Raw;
  descending = false;
  skip = 0;
  limit = limit;
  filter = None;
}

-- a page of outdated documents; an empty list of types would select everything
abbrev pub outdated_query : {F : Type 0} → List TypeVer → Option Text → ℕ → Query F
outdated_query [] after batch = plain_query [] [] after (Some 0)
outdated_query (t ∷ ts) after batch = plain_query [] (t ∷ ts) after (Some batch)

-- the version in a name is above this one
abbrev pub is_above : Option Ver → Ver → Bool
is_above None v = false
is_above (Some u) v = ver_lt v u

-- the version in a name is this one
abbrev pub is_that : Option Ver → Ver → Bool
is_that None v = false
is_that (Some u) v = not (ver_lt v u) && not (ver_lt u v)

-- what instances of one version migrate to: its registry, how many rows they read at once, and how many faults in a row they bear
pub record TargetSet (O : Type 0) : Type 0 where
  pub registry : Registry O
  pub batch : ℕ
  pub attempts : ℕ

-- what an instance of the set knows
abbrev pub settings_of : {A O F : Type 0} → Words A O F → Named → TargetSet O → Settings (Doc A) (Query F)
settings_of w names set = record {
  current = names.current;
  version = w.version_alias set.registry.version;
  target = names.target set.registry.version;
  temp = names.temp set.registry.version;
  is_later = λ index. is_above (names.version_in index) set.registry.version;
  is_same = λ index. is_that (names.version_in index) set.registry.version;
  unknown = plain_query (type_names set.registry.types ++ (set.registry.removed ++ alias_type ∷ [])) [] None None;
  page = λ after. plain_query [] [] after (Some set.batch);
  outdated = λ after. outdated_query (latests set.registry.types) after set.batch;
  outcome = λ raw doc. outcome w.transforms set.registry raw doc;
  attempts = set.attempts;
}

-- a race of instances with these settings, and of clients that make object calls
abbrev pub call_race : {A O F : Type 0} → Words A O F → (settings : ℕ → Settings (Doc A) (Query F)) → Race (Doc A) (Query F) (Script A O)
call_race w settings = record { select = select w.holds; settings = settings; clients = clients w }

-- how a store opens: empty, or with the documents of one version
pub data Start (A O : Type 0) : Type 0 where
  Empty : Start A O
  Holding : (set : TargetSet O) → (table : Table (Doc A)) → Start A O

-- a whole rollout: the sets, one for each registry, those of the opening and of the clients among them; the set of each instance; how the store opens; how many instances there are; and the clients' scripts
pub record Rollout (A O F : Type 0) : Type 0 where
  pub words : Words A O F
  pub names : Named
  pub sets : List (TargetSet O)
  pub set_of : (instance : ℕ) → TargetSet O
  pub start : Start A O
  pub instances : ℕ
  pub scripts : List (Script A O)

-- what instances of each set know
abbrev pub all_settings : {A O F : Type 0} → Words A O F → Named → List (TargetSet O) → List (Settings (Doc A) (Query F))
all_settings w names [] = []
all_settings w names (set ∷ sets) = settings_of w names set ∷ all_settings w names sets

-- the opening as a race knows it
abbrev pub opening_of : {A O F : Type 0} → Words A O F → Named → Start A O → Opening (Doc A) (Query F)
opening_of w names Empty = NoGeneration
opening_of w names (Holding set table) = OneGeneration (settings_of w names set) table

-- the rollout as a race
abbrev pub scenario_of : {A O F : Type 0} → Rollout A O F → Scenario (Doc A) (Query F) (Script A O)
scenario_of r = record {
  race = call_race r.words (λ i. settings_of r.words r.names (r.set_of i));
  current = r.names.current;
  sets = all_settings r.words r.names r.sets;
  opening = opening_of r.words r.names r.start;
  instances = r.instances;
  scripts = r.scripts;
}

-- a version as a text, if there is one
abbrev pub text_of : (Ver → Text) → Option Ver → Option Text
text_of text None = None
text_of text (Some v) = Some (text v)

-- the version in an index's name, as a text
abbrev pub named_version : Named → Text → Option Text
named_version names index = text_of names.text (names.version_in index)
