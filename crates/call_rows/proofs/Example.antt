-- What the worked calls are of: attributes that are texts under names, versions 7.11 to 7.13, and their names.
use Rattle.std.proofs.Common.{ℕ, List, [], ◌∷◌, ◌++◌, Bool, true, false, Option, Some, None, if◌then◌else◌, ◌==◌}
use lib.Chars.{codes}
use Rattle.base_model.specs.Keyed.{Text, Keyed, same, at, put}
use Rattle.race_model.specs.Stores.{Rows, Table}
use Rattle.race_model.specs.Worlds.{Actor, Entry}
use Rattle.version_token.specs.declared.Ver.{Ver}
use Rattle.space_scope.specs.declared.kind.Kind.{Kind}
use Rattle.document_model.specs.Documents.{Doc}
use Rattle.document_model.specs.Registries.{Registry}
use Rattle.query_model.specs.declared.parts.Target.{Target}
use Rattle.query_model.specs.Queries.{Query}
use Rattle.call_model.specs.Words.{Words}
use Rattle.call_model.specs.Calls.{Given, NewObject, Call, Answer}
use Rattle.call_model.specs.Calls.Act.{Create, Update, Delete, Share}
use Rattle.call_model.specs.Calls.Call.{Changing, Getting}
use Rattle.call_model.specs.Steps.{call_step}
use Rattle.call_model.specs.Scripts.{Script, clients, decided}
use Rattle.call_model.specs.Upgrades.{Named, TargetSet}

abbrev pub version : ℕ → Ver
version minor = record { major = 7; minor = minor; patch = 0 }

-- attributes are members that are texts
abbrev pub merged : Keyed Text → Keyed Text → Keyed Text
merged old [] = old
merged old (m ∷ ms) = merged (put m.0 m.1 old) ms

-- tokens of the numbers 0 and 1; no text is a filter
abbrev pub words : Words (Keyed Text) ℕ ℕ
words = record {
  transforms = record { apply = λ op a. a; texts = λ a. a; new_id = λ space name id. codes "U" };
  merge = merged;
  text_at = at;
  token_number = λ t. if same t (codes "WzAsMV0=") then Some 0 else if same t (codes "WzEsMV0=") then Some 1 else None;
  version_alias = λ v. codes ".kibana_" ++ v.minor ∷ [];
  read_filter = λ f. None;
  holds = λ f name a. true;
}

abbrev pub version_named : Text → Option Ver
version_named index =
    if same index (codes ".kibana_" ++ 11 ∷ codes "_001") then Some (version 11) else
    if same index (codes ".kibana_" ++ 12 ∷ codes "_001") then Some (version 12) else
    if same index (codes ".kibana_" ++ 13 ∷ codes "_001") then Some (version 13) else None

abbrev pub names : Named
names = record {
  current = codes ".kibana";
  target = λ v. codes ".kibana_" ++ v.minor ∷ codes "_001";
  temp = λ v. codes ".kibana_" ++ v.minor ∷ codes "_reindex_temp";
  version_in = version_named;
  text = λ v. v.minor ∷ [];
}

-- a registry of one type without migrations
abbrev pub registry : ℕ → Text → Kind → Registry ℕ
registry minor name kind = record { version = version minor; types = (name, record { kind = kind; shareable_at = None; steps = [] }) ∷ []; removed = [] }

abbrev pub set_of : ℕ → Registry ℕ → TargetSet ℕ
set_of batch reg = record { registry = reg; batch = batch; attempts = 15 }

abbrev pub target : Text → Text → Target
target name id = record { type_name = name; id = id }

abbrev pub default_space : Text
default_space = codes "default"

abbrev pub new_object : Text → Text → Keyed Text → NewObject (Keyed Text)
new_object name id attributes = record { type_name = name; id = id; attributes = attributes; references = []; given = Given.Latest; origin = None }

abbrev pub create : Text → Text → Text → Keyed Text → Call (Keyed Text)
create space name id attributes = Changing space (Create (new_object name id attributes) false None)

abbrev pub update : Text → Text → Keyed Text → Option Text → Call (Keyed Text)
update name id attributes token = Changing default_space (Update (record { target = target name id; attributes = attributes; references = None; token = token }) None)

abbrev pub delete : Text → Text → Bool → Call (Keyed Text)
delete name id force = Changing default_space (Delete (target name id) force)

abbrev pub share : Text → Text → List Text → List Text → Call (Keyed Text)
share name id add remove = Changing default_space (Share (target name id) add remove None)

abbrev pub get : Text → Text → Call (Keyed Text)
get name id = Getting default_space (target name id)

-- calls in order on one table
abbrev pub table_after : {T : Type 0} → Option T → T → T
table_after None t = t
table_after (Some u) t = u

abbrev pub applied : Registry ℕ → Table (Doc (Keyed Text)) → List (Call (Keyed Text)) → List (Answer (Keyed Text))
applied reg t [] = []
applied reg t (c ∷ cs) = (call_step words reg false t c).1 ∷ applied reg (table_after (call_step words reg false t c).0 t) cs

-- an object of one type in the default space, or in other namespaces
abbrev pub object : ℕ → Text → Text → Keyed Text → ℕ → Option (List Text) → Answer (Keyed Text)
object minor name id attributes number namespaces = Answer.Object (record {
  type_name = name;
  id = id;
  attributes = attributes;
  references = [];
  number = number;
  stamp = None;
  core = Some (version minor);
  origin = None;
  updated_at = None;
  namespaces = namespaces;
})

abbrev pub client : Registry ℕ → List (Call (Keyed Text)) → Script (Keyed Text) ℕ
client reg calls = record { registry = reg; calls = calls; heard = None; number = 1 }

-- the answers of one client, by the replies of its entries
abbrev and_answer : Option (Answer (Keyed Text)) → List (Answer (Keyed Text)) → List (Answer (Keyed Text))
and_answer None rest = rest
and_answer (Some a) rest = a ∷ rest

abbrev pub is_client : ℕ → Actor → Bool
is_client k (Actor.Instance i) = false
is_client k (Actor.Client j) = j == k

abbrev pub answers_of : ℕ → Script (Keyed Text) ℕ → List (Entry (Doc (Keyed Text)) (Query ℕ)) → List (Answer (Keyed Text))
answers_of k c [] = []
answers_of k c (e ∷ es) = if is_client k e.actor then and_answer (decided words c e.reply) (answers_of k ((clients words).told c e.reply) es) else answers_of k c es

abbrev pub raws : Rows (Doc (Keyed Text)) → List Text
raws [] = []
raws (r ∷ rs) = r.0 ∷ raws rs

-- a document of a type without a space of its own
abbrev pub plain_doc : Text → Doc (Keyed Text)
plain_doc name = record { type_name = name; attributes = []; references = []; namespace = None; namespaces = None; stamp = None; core = None; updated_at = None; origin = None }
