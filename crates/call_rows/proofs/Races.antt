-- Worked rollouts, computed.
use Rattle.std.proofs.Common.{◌≡◌, ℕ, zero, suc, List, [], ◌∷◌, ◌++◌, length, false, Option, Some, None, refl, drop, ◌-◌, if◌then◌else◌}
use lib.Chars.{codes}
use Rattle.base_model.specs.Keyed.{Text, Keyed, same, text_lt, at, put, without}
use Rattle.race_model.specs.Stores.{Item, Reply, Rows, Index, write, write_all, items_of, numbered, pit_at, close, meant, aliases_without, act, act_all, serve}
use Rattle.race_model.specs.Machines.{Cause, Machine, State, request, moved, raws_where, collision, pass_after, gathered, batch, last_of, rewrites}
use Rattle.race_model.specs.Machines.End.{Fatal}
use Rattle.race_model.specs.Machines.State.{Ended}
use Rattle.race_model.specs.Worlds.{Entry, Event, Node, World, nth, with_nth, happens, run}
use Rattle.race_model.specs.Worlds.Event.{Step, Start}
use Rattle.race_model.specs.Openings.{world_after}
use Rattle.document_model.specs.declared.reference.Ref.{Ref}
use Rattle.space_scope.specs.declared.kind.Kind.TheVariants.{Single, Multiple, MultipleIsolated}
use Rattle.document_model.specs.Documents.{ver_lt, Doc, lists, after}
use Rattle.document_model.specs.Registries.{Registry, known, greatest}
use Rattle.document_model.specs.Migrations.{outcome}
use Rattle.query_model.specs.Queries.{Query, is_outdated, chosen}
use Rattle.call_model.specs.declared.refuse.Refuse.{Refuse}
use Rattle.call_model.specs.declared.refuse.MatchKind.{MatchKind}
use Rattle.call_model.specs.Calls.{Answer}
use Rattle.call_model.specs.Calls.Answer.{Resolved, Refused}
use Rattle.call_model.specs.Calls.Call.{Resolving}
use Rattle.call_model.specs.Acts.{is_space, own_words, is_seen, judge, act_step}
use Rattle.call_model.specs.Steps.{turns, each_turn, all_got, alias_target, resolve, work_of, call_step}
use Rattle.call_model.specs.Plans.{readied, answers, looked}
use Rattle.call_model.specs.Scripts.{Script}
use Rattle.call_model.specs.Upgrades.{Rollout, scenario_of}
use Rattle.call_model.specs.Upgrades.Start.{Holding}
use Rattle.call_rows.proofs.Example.{version, words, names, registry, set_of, target, default_space, create, update, delete, get, object, client, answers_of, raws, plain_doc, is_client}

abbrev D : Type 0
D = Doc (Keyed Text)

abbrev Client : Type 0
Client = Script (Keyed Text) ℕ

-- a rollout of one version over an opening of another
abbrev rollout : Registry ℕ → Registry ℕ → Rows D → ℕ → List Client → Rollout (Keyed Text) ℕ ℕ
rollout new old rows instances scripts = record {
  words = words;
  names = names;
  sets = set_of 1000 old ∷ set_of 1000 new ∷ [];
  set_of = λ i. set_of 1000 new;
  start = Holding (set_of 1000 old) (record { rows = rows; next = length rows });
  instances = instances;
  scripts = scripts;
}

abbrev after_events : Rollout (Keyed Text) ℕ ℕ → List Event → World D (Query ℕ) Client
after_events r events = world_after (scenario_of r) events

abbrev times : ℕ → List Event → List Event
times zero es = []
times (suc n) es = es ++ times n es

abbrev rows_in : Option (Index D) → Rows D
rows_in None = []
rows_in (Some ix) = ix.table.rows

abbrev dashboard : Text
dashboard = codes "dashboard"

abbrev new_dashboards : Registry ℕ
new_dashboards = registry 12 dashboard Single

abbrev old_dashboards : Registry ℕ
old_dashboards = registry 11 dashboard Single

abbrev target_of : ℕ → Text
target_of minor = names.target (version minor)

abbrev in_default : Option (List Text)
in_default = Some (default_space ∷ [])

-- an old client meets the block
abbrev writer : Client
writer = client old_dashboards (create default_space dashboard (codes "x") [] ∷ create default_space dashboard (codes "y") [] ∷ get dashboard (codes "x") ∷ [])

abbrev old_client : World D (Query ℕ) Client
old_client = after_events (rollout new_dashboards old_dashboards [] 1 (writer ∷ [])) (Start 1 ∷ Step 1 ∷ Step 1 ∷ Event.Client 1 ∷ Step 1 ∷ Event.Client 1 ∷ Event.Client 1 ∷ times 12 (Step 1 ∷ []))

old_client_meets_the_block : answers_of 1 writer old_client.journal ≡ object 11 dashboard (codes "x") [] 0 in_default ∷ Refused Refuse.WriteBlocked ∷ object 11 dashboard (codes "x") [] 0 in_default ∷ []
unfolding same text_lt at put without write write_all items_of ver_lt lists after known greatest is_space own_words is_seen judge act_step turns each_turn all_got alias_target resolve work_of call_step readied answers looked is_outdated chosen outcome numbered pit_at close meant aliases_without act act_all serve request moved raws_where collision pass_after gathered batch last_of rewrites nth with_nth happens run
old_client_meets_the_block = refl

old_client_target : raws (rows_in (at (target_of 12) old_client.store.indices)) ≡ codes "dashboard:x" ∷ []
unfolding same text_lt at put without write write_all items_of ver_lt lists after known greatest is_space own_words is_seen judge act_step turns each_turn all_got alias_target resolve work_of call_step readied answers looked is_outdated chosen outcome numbered pit_at close meant aliases_without act act_all serve request moved raws_where collision pass_after gathered batch last_of rewrites nth with_nth happens run
old_client_target = refl

-- a delete and an update of one object
abbrev tag : Text
tag = codes "tag"

abbrev tag_row : Rows D
tag_row = (codes "tag:t1", record { seq = 0; doc = record { type_name = tag; attributes = []; references = []; namespace = None; namespaces = Some (default_space ∷ []); stamp = None; core = None; updated_at = None; origin = None } }) ∷ []

abbrev deleter : Client
deleter = client (registry 11 tag Multiple) (delete tag (codes "t1") false ∷ [])

abbrev updater : Client
updater = client (registry 11 tag Multiple) (update tag (codes "t1") [] None ∷ [])

abbrev contended : World D (Query ℕ) Client
contended = after_events (rollout (registry 12 tag Multiple) (registry 11 tag Multiple) tag_row 0 (deleter ∷ updater ∷ [])) (Event.Client 1 ∷ Event.Client 2 ∷ Event.Client 2 ∷ Event.Client 1 ∷ [])

delete_is_busy : answers_of 1 deleter contended.journal ≡ Refused (Refuse.Busy (Some 0) (Some 1)) ∷ []
unfolding same text_lt at put without write write_all items_of ver_lt lists after known greatest is_space own_words is_seen judge act_step turns each_turn all_got alias_target resolve work_of call_step readied answers looked is_outdated chosen outcome numbered pit_at close meant aliases_without act act_all serve request moved raws_where collision pass_after gathered batch last_of rewrites nth with_nth happens run
delete_is_busy = refl

abbrev numbers : List (Answer (Keyed Text)) → List (Option ℕ)
numbers [] = []
numbers (Answer.Object o ∷ rest) = Some o.number ∷ numbers rest
numbers (a ∷ rest) = None ∷ numbers rest

update_is_done : numbers (answers_of 2 updater contended.journal) ≡ Some 1 ∷ []
unfolding same text_lt at put without write write_all items_of ver_lt lists after known greatest is_space own_words is_seen judge act_step turns each_turn all_got alias_target resolve work_of call_step readied answers looked is_outdated chosen outcome numbered pit_at close meant aliases_without act act_all serve request moved raws_where collision pass_after gathered batch last_of rewrites nth with_nth happens run
update_is_done = refl

-- a type becomes shareable
abbrev shareable : Registry ℕ
shareable = record {
  version = version 12;
  types = (dashboard, record { kind = MultipleIsolated; shareable_at = Some (version 12); steps = [] }) ∷ (codes "visualization", record { kind = Single; shareable_at = None; steps = [] }) ∷ [];
  removed = [];
}

abbrev before : Registry ℕ
before = record {
  version = version 11;
  types = (dashboard, record { kind = Single; shareable_at = None; steps = [] }) ∷ (codes "visualization", record { kind = Single; shareable_at = None; steps = [] }) ∷ [];
  removed = [];
}

abbrev doc_in : Text → Text → List Ref → D
doc_in space name references = record { type_name = name; attributes = []; references = references; namespace = Some space; namespaces = None; stamp = None; core = None; updated_at = None; origin = None }

abbrev ref : Text → Text → Ref
ref name id = record { name = codes "r"; type_name = name; id = id }

abbrev two_rows : Rows D
two_rows = (codes "a:dashboard:d1", record { seq = 0; doc = doc_in (codes "a") dashboard [] })
    ∷ (codes "a:visualization:v1", record { seq = 1; doc = doc_in (codes "a") (codes "visualization") (ref dashboard (codes "d1") ∷ []) }) ∷ []

abbrev resolver : Client
resolver = client shareable (Resolving (codes "a") (target dashboard (codes "d1")) ∷ [])

abbrev moved_world : World D (Query ℕ) Client
moved_world = after_events (rollout shareable before two_rows 1 (resolver ∷ [])) (Start 1 ∷ times 16 (Step 1 ∷ []) ++ (Event.Client 1 ∷ Event.Client 1 ∷ []))

-- the reference, the new id with its origin, and the alias document
shareable_type_gets_new_id_and_alias : rows_in (at (target_of 12) moved_world.store.indices) ≡
    (codes "a:visualization:v1", record { seq = 0; doc = record { type_name = codes "visualization"; attributes = []; references = ref dashboard (codes "U") ∷ []; namespace = Some (codes "a"); namespaces = None; stamp = None; core = Some (version 12); updated_at = None; origin = None } })
    ∷ (codes "dashboard:U", record { seq = 1; doc = record { type_name = dashboard; attributes = []; references = []; namespace = None; namespaces = Some (codes "a" ∷ []); stamp = Some (version 12); core = Some (version 12); updated_at = None; origin = Some (codes "d1") } })
    ∷ (codes "legacy-url-alias:a:dashboard:d1", record { seq = 2; doc = record { type_name = codes "legacy-url-alias"; attributes = (codes "sourceId", codes "d1") ∷ (codes "targetId", codes "U") ∷ (codes "targetNamespace", codes "a") ∷ (codes "targetType", dashboard) ∷ []; references = []; namespace = None; namespaces = None; stamp = None; core = Some (version 12); updated_at = None; origin = None } }) ∷ []
unfolding same text_lt at put without write write_all items_of ver_lt lists after known greatest is_space own_words is_seen judge act_step turns each_turn all_got alias_target resolve work_of call_step readied answers looked is_outdated chosen outcome numbered pit_at close meant aliases_without act act_all serve request moved raws_where collision pass_after gathered batch last_of rewrites nth with_nth happens run
shareable_type_gets_new_id_and_alias = refl

abbrev matches : List (Answer (Keyed Text)) → List (Option (Text × MatchKind × Option Text))
matches [] = []
matches (Resolved o kind alias ∷ rest) = Some (o.id, kind, alias) ∷ matches rest
matches (a ∷ rest) = None ∷ matches rest

resolve_goes_through_the_alias : matches (answers_of 1 resolver moved_world.journal) ≡ Some (codes "U", MatchKind.AliasMatch, Some (codes "U")) ∷ []
unfolding same text_lt at put without write write_all items_of ver_lt lists after known greatest is_space own_words is_seen judge act_step turns each_turn all_got alias_target resolve work_of call_step readied answers looked is_outdated chosen outcome numbered pit_at close meant aliases_without act act_all serve request moved raws_where collision pass_after gathered batch last_of rewrites nth with_nth happens run
resolve_goes_through_the_alias = refl

-- late requests after a delete
abbrev row_a : Rows D
row_a = (codes "dashboard:a", record { seq = 0; doc = plain_doc dashboard }) ∷ []

abbrev remover : Client
remover = client new_dashboards (get dashboard (codes "a") ∷ delete dashboard (codes "a") false ∷ get dashboard (codes "a") ∷ [])

abbrev late_world : World D (Query ℕ) Client
late_world = after_events (rollout new_dashboards old_dashboards row_a 1 (remover ∷ []))
    (Start 1 ∷ Event.Client 1 ∷ times 15 (Step 1 ∷ []) ++ (Event.Client 1 ∷ Event.Client 1 ∷ Event.Again 1 4 ∷ Event.Again 1 7 ∷ Event.Client 1 ∷ []))

-- the replies to the client
abbrev replies_of : List (Entry D (Query ℕ)) → List (Reply D)
replies_of [] = []
replies_of (e ∷ es) = if is_client 1 e.actor then e.reply ∷ replies_of es else replies_of es

late_replies : replies_of (drop (length late_world.journal - 6) late_world.journal)
    ≡ Reply.Found (Some (codes "dashboard:a", record { seq = 0; doc = record { type_name = dashboard; attributes = []; references = []; namespace = None; namespaces = None; stamp = None; core = Some (version 12); updated_at = None; origin = None } }) ∷ [])
    ∷ Reply.Items (Item.Written 1 ∷ []) ∷ Reply.Found (None ∷ []) ∷ []
unfolding same text_lt at put without write write_all items_of ver_lt lists after known greatest is_space own_words is_seen judge act_step turns each_turn all_got alias_target resolve work_of call_step readied answers looked is_outdated chosen outcome numbered pit_at close meant aliases_without act act_all serve request moved raws_where collision pass_after gathered batch last_of rewrites nth with_nth happens run
late_replies = refl

late_tables : (raws (rows_in (at (names.temp (version 12)) late_world.store.indices)) ≡ codes "dashboard:a" ∷ [])
    × (at (target_of 12) late_world.store.indices ≡ Some (record { blocked = false; source = Some (target_of 11); table = record { rows = []; next = 2 } }))
unfolding same text_lt at put without write write_all items_of ver_lt lists after known greatest is_space own_words is_seen judge act_step turns each_turn all_got alias_target resolve work_of call_step readied answers looked is_outdated chosen outcome numbered pit_at close meant aliases_without act act_all serve request moved raws_where collision pass_after gathered batch last_of rewrites nth with_nth happens run
late_tables = (refl, refl)

abbrev ends : List (Node D (Query ℕ)) → List (Option (State D))
ends [] = []
ends (n ∷ ns) = state_of n.machine ∷ ends ns
  where
    state_of : Option (Machine D) → Option (State D)
    state_of None = None
    state_of (Some m) = Some m.state

-- an object of a type that the new version doesn't know
abbrev widgets : Registry ℕ
widgets = record { version = version 11; types = (dashboard, record { kind = Single; shareable_at = None; steps = [] }) ∷ (codes "widget", record { kind = Single; shareable_at = None; steps = [] }) ∷ []; removed = [] }

unknown_object_before_the_block :
    ends (after_events (rollout new_dashboards widgets [] 1 (client widgets (create default_space (codes "widget") (codes "w1") [] ∷ []) ∷ [])) (Start 1 ∷ Step 1 ∷ Step 1 ∷ Event.Client 1 ∷ times 4 (Step 1 ∷ []))).nodes
    ≡ Some (Ended (Fatal (Cause.UnknownObjects (codes "widget:w1" ∷ [])))) ∷ []
unfolding same text_lt at put without write write_all items_of ver_lt lists after known greatest is_space own_words is_seen judge act_step turns each_turn all_got alias_target resolve work_of call_step readied answers looked is_outdated chosen outcome numbered pit_at close meant aliases_without act act_all serve request moved raws_where collision pass_after gathered batch last_of rewrites nth with_nth happens run
unknown_object_before_the_block = refl

-- a new id that meets another document's
new_id_collides :
    ends (after_events (rollout shareable before ((codes "a:dashboard:d1", record { seq = 0; doc = doc_in (codes "a") dashboard [] }) ∷ (codes "dashboard:U", record { seq = 1; doc = plain_doc dashboard }) ∷ []) 1 []) (Start 1 ∷ times 6 (Step 1 ∷ []))).nodes
    ≡ Some (Ended (Fatal (Cause.Collision (codes "a:dashboard:d1") (codes "dashboard:U") (codes "dashboard:U")))) ∷ []
unfolding same text_lt at put without write write_all items_of ver_lt lists after known greatest is_space own_words is_seen judge act_step turns each_turn all_got alias_target resolve work_of call_step readied answers looked is_outdated chosen outcome numbered pit_at close meant aliases_without act act_all serve request moved raws_where collision pass_after gathered batch last_of rewrites nth with_nth happens run
new_id_collides = refl
