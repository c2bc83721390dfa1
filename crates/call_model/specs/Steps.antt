-- A call on one table, and a call on the state that it reads and the state that it writes.
use Rattle.std.specs.Prelude.{ℕ, ◌-◌, ◌*◌, min, Bool, true, false, ◌||◌, not, List, [], ◌∷◌, codes, Option, Some, None, is_none, if◌then◌else◌, ◌==◌, nat_lt}
use Rattle.base_model.specs.Keyed.{Text, same, at}
use Rattle.race_model.specs.Stores.{Cell, Rows, Table, empty_table}
use Rattle.race_model.specs.Generations.{Generation}
use Rattle.document_model.specs.Documents.{Doc, lists, joined}
use Rattle.query_model.specs.declared.parts.TypeKind.{TypeKind}
use Rattle.document_model.specs.Registries.{Known, Registry, alias_type, known}
use Rattle.call_model.specs.Words.{Words}
use Rattle.document_model.specs.Migrations.{alias_raw}
use Rattle.query_model.specs.declared.parts.Target.{Target}
use Rattle.call_model.specs.Calls.{NewObject, Find, Act, Call, Shown, One, Answer}
use Rattle.call_model.specs.declared.refuse.Refuse.{Refuse}
use Rattle.call_model.specs.Calls.Act.{Create}
use Rattle.call_model.specs.Calls.Call.{Changing, BulkCreating, Getting, BulkGetting, Resolving, Finding}
use Rattle.call_model.specs.declared.refuse.Refuse.TheVariants.{NotFound, Conflict, UnsupportedType, BadId, BadSpace, WriteBlocked, NotReady, Busy, BadPage, BadFilter}
use Rattle.call_model.specs.declared.refuse.MatchKind.TheVariants.{ExactMatch, AliasMatch}
use Rattle.call_model.specs.declared.refuse.MatchKind.TheVariants as kinds
use Rattle.call_model.specs.Calls.Answer.{Object, Each, Page, Resolved, Refused}
use Rattle.query_model.specs.Queries.{Query, select}
use Rattle.call_model.specs.Acts.{is_space, bad_space, bad_id, first_of, is_unknown, own_words, kind_over, raw_of, target_of, is_seen, shown, Deed, judge, act_step}
use Rattle.call_model.specs.Acts.Deed.{Deny}

-- items of a writing call: an item that its own words refuse, or whose raw id an earlier one has, or one to judge
pub data Turn (A : Type 0) : Type 0 where
  Denied : Refuse → Turn A
  Goes : (raw : Text) → (act : Act A) → Turn A

-- an item, by its own words and by whether its raw id is taken
abbrev pub turn_over : {A : Type 0} → Option Refuse → Bool → Text → Act A → Turn A
turn_over (Some r) repeated raw act = Denied r
turn_over None true raw act = Denied Conflict
turn_over None false raw act = Goes raw act

-- an item that its own words don't refuse takes its raw id
abbrev pub taken_after : Option Refuse → Text → List Text → List Text
taken_after (Some r) raw taken = taken
taken_after None raw taken = raw ∷ taken

-- the items in order, after those whose raw ids are taken
unfoldable pub turns : {A O F : Type 0} → Words A O F → Registry O → Text → List Text → List (Act A) → List (Turn A)
turns w reg space taken [] = []
turns w reg space taken (act ∷ acts) =
    turn_over (own_words w reg act) (lists (raw_of reg space (target_of act)) taken) (raw_of reg space (target_of act)) act
    ∷ turns w reg space (taken_after (own_words w reg act) (raw_of reg space (target_of act)) taken) acts

-- no item is left to judge
abbrev pub all_denied : {A : Type 0} → List (Turn A) → Bool
all_denied [] = true
all_denied (Denied r ∷ ts) = all_denied ts
all_denied (Goes raw act ∷ ts) = false

-- what an item does to a table, and its answer
abbrev pub Stepper : Type 0 → Type 0
Stepper A = Text → Act A → Table (Doc A) → Table (Doc A) × Answer A

-- the answer of an item before those of the items after it
abbrev pub and_then : {A : Type 0} → Answer A → Table (Doc A) × List (Answer A) → Table (Doc A) × List (Answer A)
and_then one rest = (rest.0, one ∷ rest.1)

-- one by one, each on the table that the items before leave
unfoldable pub each_turn : {A : Type 0} → Stepper A → List (Turn A) → Table (Doc A) → Table (Doc A) × List (Answer A)
each_turn step [] t = (t, [])
each_turn step (Denied r ∷ ts) t = and_then (Refused r) (each_turn step ts t)
each_turn step (Goes raw act ∷ ts) t = and_then (step raw act t).1 (each_turn step ts (step raw act t).0)

-- an item that was judged by one row, on a table where the row may be another

-- the number of a row, if there is one
abbrev pub number_of : {A : Type 0} → Option (Cell (Doc A)) → Option ℕ
number_of None = None
number_of (Some c) = Some c.seq

-- the same number, or none in both
abbrev pub same_number : Option ℕ → Option ℕ → Bool
same_number None None = true
same_number (Some a) (Some b) = a == b
same_number _ _ = false

-- the refusal where the row is gone: a create is busy, all others find nothing
abbrev pub gone : {A : Type 0} → Act A → Option ℕ → Refuse
gone (Create o overwrite time) seen = Busy seen None
gone act seen = NotFound

-- the refusal where the row has another number than when it was read
abbrev pub missed : {A : Type 0} → Bool → Act A → Option ℕ → Option ℕ → Refuse
missed true act seen now = WriteBlocked
missed false act seen None = gone act seen
missed false act seen (Some n) = Busy seen (Some n)

-- where the numbers are the same, the item is a step on the table as it is now
abbrev pub where_same : {A O F : Type 0} → Words A O F → Registry O → Text → Bool → Text → Act A → Bool → Option ℕ → Option ℕ → Table (Doc A) → Table (Doc A) × Answer A
where_same w reg space blocked raw act true seen now t = act_step w reg space blocked raw act t
where_same w reg space blocked raw act false seen now t = (t, Refused (missed blocked act seen now))

-- the refusal that the read showed comes first
abbrev pub item_over : {A O F : Type 0} → Words A O F → Registry O → Text → Bool → Text → Act A → Deed A → Option (Cell (Doc A)) → Table (Doc A) → Table (Doc A) × Answer A
item_over w reg space blocked raw act (Deny r) seen t = (t, Refused r)
item_over w reg space blocked raw act _ seen t =
    where_same w reg space blocked raw act (same_number (number_of seen) (number_of (at raw t.rows))) (number_of seen) (number_of (at raw t.rows)) t

-- an item that was judged by the rows read, on a table as it is now
unfoldable pub item_step : {A O F : Type 0} → Words A O F → Registry O → Text → Rows (Doc A) → Bool → Stepper A
item_step w reg space read blocked raw act t = item_over w reg space blocked raw act (judge w reg space act (at raw read)) (at raw read) t

-- reads

-- the refusal by the words of a read, but for its space
abbrev pub look_words : {O : Type 0} → Registry O → Target → Option Refuse
look_words reg t = first_of ((is_unknown reg t.type_name, UnsupportedType) ∷ (bad_id t.id, BadId) ∷ [])

-- a row that has the type and is visible
abbrev pub seen_over : {A O : Type 0} → Registry O → Text → Target → Option (Cell (Doc A)) → Option (Cell (Doc A))
seen_over reg space t None = None
seen_over reg space t (Some c) = if is_seen reg space t.type_name c.doc then Some c else None

-- the row of an object, where it has the type and is visible
abbrev pub object_at : {A O : Type 0} → Registry O → Text → Target → Rows (Doc A) → Option (Cell (Doc A))
object_at reg space t rows = seen_over reg space t (at (raw_of reg space t) rows)

-- the answer to a read
abbrev pub got : {A O : Type 0} → Registry O → Text → Option (Cell (Doc A)) → Answer A
got reg raw None = Refused NotFound
got reg raw (Some c) = Object (shown reg raw c.seq c.doc)

-- targets that their own words refuse, or to look up
pub data Look : Type 0 where
  Refuses : Refuse → Look
  At : Target → Look

-- a target, by the words of its read
abbrev pub look_over : Option Refuse → Target → Look
look_over None t = At t
look_over (Some r) t = Refuses r

-- the targets of a read
abbrev pub looks : {O : Type 0} → Registry O → List Target → List Look
looks reg [] = []
looks reg (t ∷ ts) = look_over (look_words reg t) t ∷ looks reg ts

-- no target is left to look up
abbrev pub all_refused : List Look → Bool
all_refused [] = true
all_refused (Refuses r ∷ ls) = all_refused ls
all_refused (At t ∷ ls) = false

-- the answers to reads
unfoldable pub all_got : {A O : Type 0} → Registry O → Text → List Look → Rows (Doc A) → List (Answer A)
all_got reg space [] rows = []
all_got reg space (Refuses r ∷ ls) rows = Refused r ∷ all_got reg space ls rows
all_got reg space (At t ∷ ls) rows = got reg (raw_of reg space t) (object_at reg space t rows) ∷ all_got reg space ls rows

-- find

-- one of the types isn't known
abbrev pub any_unknown : {O : Type 0} → Registry O → List Text → Bool
any_unknown reg [] = false
any_unknown reg (n ∷ ns) = is_unknown reg n || any_unknown reg ns

-- a filter is given that isn't of the form of filters
abbrev pub bad_filter : {A O F : Type 0} → Words A O F → Option Text → Bool
bad_filter w None = false
bad_filter w (Some f) = is_none (w.read_filter f)

-- the filter that is given
abbrev pub filter_of : {A O F : Type 0} → Words A O F → Option Text → Option F
filter_of w None = None
filter_of w (Some f) = w.read_filter f

-- the refusal by the words of a search
abbrev pub find_words : {A O F : Type 0} → Words A O F → Registry O → Text → Find → Option Refuse
find_words w reg space f = first_of ((not (is_space space), BadSpace) ∷ (any_unknown reg f.types, UnsupportedType) ∷ (f.page == 0 || nat_lt 10000 f.per_page, BadPage) ∷ (bad_filter w f.filter, BadFilter) ∷ [])

-- the types with their kinds
abbrev pub with_kinds : {O : Type 0} → Registry O → List Text → List TypeKind
with_kinds reg [] = []
with_kinds reg (n ∷ ns) = record { name = n; kind = kind_over (known reg n) } ∷ with_kinds reg ns

-- a search as a query
abbrev pub query_of : {A O F : Type 0} → Words A O F → Registry O → Text → Find → Query F
query_of w reg space f = record {
  types = Some (with_kinds reg f.types);
  not_types = [];
  space = Some space;
  reference = f.reference;
  origin = f.origin;
  outdated = [];
  after = None;
  sort = f.sort;
  descending = f.descending;
  skip = min ((f.page - 1) * f.per_page) 18446744073709551615;
  limit = Some f.per_page;
  filter = filter_of w f.filter;
}

-- rows as objects
abbrev pub all_shown : {A O : Type 0} → Registry O → Rows (Doc A) → List (Shown A)
all_shown reg [] = []
all_shown reg (r ∷ rows) = shown reg r.0 r.1.seq r.1.doc ∷ all_shown reg rows

-- the page that a search answers
abbrev pub page_of : {A O : Type 0} → Registry O → Find → ℕ → Rows (Doc A) → Answer A
page_of reg f total rows = Page (all_shown reg rows) f.page f.per_page total

-- resolve

-- the refusal by the words of a resolve
abbrev pub resolve_words : {O : Type 0} → Registry O → Text → Target → Option Refuse
resolve_words reg space t = first_of ((not (is_space space), BadSpace) ∷ (is_unknown reg t.type_name, UnsupportedType) ∷ (bad_id t.id, BadId) ∷ [])

-- the raw id of the alias document of an object
abbrev pub alias_of : Text → Target → Text
alias_of space t = alias_raw space t.type_name t.id

-- the target of two texts that are there
abbrev pub target_over : Option Text → Option Text → Option Target
target_over (Some name) (Some id) = Some (record { type_name = name; id = id })
target_over _ _ = None

-- the target that an alias row names, none of a row of another type
unfoldable pub alias_target : {A O F : Type 0} → Words A O F → Option (Cell (Doc A)) → Option Target
alias_target w None = None
alias_target w (Some c) = if same c.doc.type_name alias_type then target_over (w.text_at target_type c.doc.attributes) (w.text_at target_id c.doc.attributes) else None
  where
    target_type : Text
    target_type = codes "targetType"

    target_id : Text
    target_id = codes "targetId"

-- the raw id of an alias's target
abbrev pub target_raw : Target → Text
target_raw t = joined t.type_name t.id

-- an alias counts where its target's type is known, and its row has that type and is visible
abbrev pub counted_over : {A O : Type 0} → Registry O → Text → Target → Option (Known O) → Option (Cell (Doc A)) → Option (Cell (Doc A))
counted_over reg space t None row = None
counted_over reg space t (Some k) row = seen_over reg space t row

-- the row of an alias's target, where it counts
abbrev pub counted : {A O : Type 0} → Registry O → Text → Target → Option (Cell (Doc A)) → Option (Cell (Doc A))
counted reg space t row = counted_over reg space t (known reg t.type_name) row

-- the exact row, or the alias's target, or both
abbrev pub resolved_over : {A O : Type 0} → Registry O → (raw : Text) → Target → Option (Cell (Doc A)) → Option (Cell (Doc A)) → Answer A
resolved_over reg raw t None None = Refused NotFound
resolved_over reg raw t (Some c) None = Resolved (shown reg raw c.seq c.doc) ExactMatch None
resolved_over reg raw t None (Some a) = Resolved (shown reg (target_raw t) a.seq a.doc) AliasMatch (Some t.id)
resolved_over reg raw t (Some c) (Some a) = Resolved (shown reg raw c.seq c.doc) kinds.Conflict (Some t.id)

-- the exact row alone
abbrev pub exact_over : {A O : Type 0} → Registry O → (raw : Text) → Option (Cell (Doc A)) → Answer A
exact_over reg raw None = Refused NotFound
exact_over reg raw (Some c) = Resolved (shown reg raw c.seq c.doc) ExactMatch None

-- by the exact row, the target that the alias names, and the rows where the target's may be
abbrev pub resolved_by : {A O : Type 0} → Registry O → Text → Target → Option Target → Option (Cell (Doc A)) → (Target → Option (Cell (Doc A))) → Answer A
resolved_by reg space t None exact target_row = exact_over reg (raw_of reg space t) (seen_over reg space t exact)
resolved_by reg space t (Some a) exact target_row = resolved_over reg (raw_of reg space t) a (seen_over reg space t exact) (counted reg space a (target_row a))

-- an object by its own id, by an old one, or by both
unfoldable pub resolve : {A O F : Type 0} → Words A O F → Registry O → Text → Target → Rows (Doc A) → Answer A
resolve w reg space t rows = resolved_by reg space t (alias_target w (at (alias_of space t) rows)) (at (raw_of reg space t) rows) (λ a. at (target_raw a) rows)

-- whole calls

-- a refusal of a whole call
abbrev pub refused : {A : Type 0} → Refuse → Answer A
refused r = Refused r

-- the one answer
abbrev pub lone : {A : Type 0} → List (Answer A) → Answer A
lone [] = Each []
lone (a ∷ answers) = a

-- an answer as that of one item of a bulk; items of bulks answer objects and refusals alone
abbrev pub one_of : {A : Type 0} → Answer A → One A
one_of (Object o) = One.Object o
one_of (Refused r) = One.Refused r
one_of _ = One.Refused NotFound

-- the answers of a bulk's items
abbrev pub each_of : {A : Type 0} → List (Answer A) → List (One A)
each_of [] = []
each_of (a ∷ answers) = one_of a ∷ each_of answers

-- the answers of a bulk, or the one answer
abbrev pub form : {A : Type 0} → Bool → List (Answer A) → Answer A
form true answers = lone answers
form false answers = Each (each_of answers)

-- the items of a bulk of creates
abbrev pub creates : {A : Type 0} → Bool → Option Text → List (NewObject A) → List (Act A)
creates overwrite time [] = []
creates overwrite time (o ∷ os) = Create o overwrite time ∷ creates overwrite time os

-- what a call is of: a refusal, items that write, items that read, a search, or an object and its alias
pub data Work (A : Type 0) : Type 0 where
  Refusing : Refuse → Work A
  Writing : (alone : Bool) → (space : Text) → List (Turn A) → Work A
  Looking : (alone : Bool) → (space : Text) → List Look → Work A
  Searching : (space : Text) → Find → Work A
  Following : (space : Text) → Target → Work A

-- a refusal before all else
abbrev pub unless : {A : Type 0} → Bool → Refuse → Work A → Work A
unless true r work = Refusing r
unless false r work = work

-- the refusal by a call's words before all else
abbrev pub unless_words : {A : Type 0} → Option Refuse → Work A → Work A
unless_words (Some r) work = Refusing r
unless_words None work = work

-- a call, after its own words
unfoldable pub work_of : {A O F : Type 0} → Words A O F → Registry O → Call A → Work A
work_of w reg (Changing space act) = unless (bad_space space act) BadSpace (Writing true space (turns w reg space [] (act ∷ [])))
work_of w reg (BulkCreating space objects overwrite time) = unless (not (is_space space)) BadSpace (Writing false space (turns w reg space [] (creates overwrite time objects)))
work_of w reg (Getting space t) = unless (not (is_space space)) BadSpace (Looking true space (looks reg (t ∷ [])))
work_of w reg (BulkGetting space ts) = unless (not (is_space space)) BadSpace (Looking false space (looks reg ts))
work_of w reg (Resolving space t) = unless_words (resolve_words reg space t) (Following space t)
work_of w reg (Finding space f) = unless_words (find_words w reg space f) (Searching space f)

-- what is left, none where nothing changes, and the answer
abbrev pub Outcome : Type 0 → Type 0
Outcome A = Option (Table (Doc A)) × Answer A

-- what items leave, and their answers
abbrev pub answered : {A : Type 0} → Bool → Table (Doc A) × List (Answer A) → Outcome A
answered alone r = (Some r.0, form alone r.1)

-- the call on one table
abbrev pub work_step : {A O F : Type 0} → Words A O F → Registry O → Bool → Table (Doc A) → Work A → Outcome A
work_step w reg blocked t (Refusing r) = (None, refused r)
work_step w reg blocked t (Writing alone space ts) = answered alone (each_turn (λ raw act table. act_step w reg space blocked raw act table) ts t)
work_step w reg blocked t (Looking alone space ls) = (None, form alone (all_got reg space ls t.rows))
work_step w reg blocked t (Searching space f) = (None, page_of reg f ((select w.holds).total (query_of w reg space f) t.rows) ((select w.holds).rows (query_of w reg space f) t.rows))
work_step w reg blocked t (Following space q) = (None, resolve w reg space q t.rows)

-- one thread: a call on one table, open or blocked
unfoldable pub call_step : {A O F : Type 0} → Words A O F → Registry O → Bool → Table (Doc A) → Call A → Outcome A
call_step w reg blocked t call = work_step w reg blocked t (work_of w reg call)

-- a resolve whose alias has the same number as when it was read
abbrev pub resolve_between : {A O F : Type 0} → Words A O F → Registry O → Text → Target → Option ℕ → Option ℕ → Rows (Doc A) → Answer A
resolve_between w reg space t seen now rows = if same_number seen now then resolve w reg space t rows else refused (Busy seen now)

-- a call between two moments: the rows read at its first request, and the table at its last
abbrev pub called_in : {A O F : Type 0} → Words A O F → Registry O → Work A → Rows (Doc A) → Bool → Table (Doc A) → Outcome A
called_in w reg (Writing alone space ts) read blocked t = answered alone (each_turn (item_step w reg space read blocked) ts t)
called_in w reg (Following space q) read blocked t = (None, resolve_between w reg space q (number_of (at (alias_of space q) read)) (number_of (at (alias_of space q) t.rows)) t.rows)
called_in w reg work read blocked t = work_step w reg blocked t work

-- no item of it is left to judge by the store
abbrev pub needs_no_store : {A : Type 0} → Work A → Bool
needs_no_store (Refusing r) = true
needs_no_store (Writing alone space ts) = all_denied ts
needs_no_store (Looking alone space ls) = all_refused ls
needs_no_store _ = false

-- the rows of a generation, none where there is none
abbrev pub rows_of : {A : Type 0} → Option (Generation (Doc A)) → Rows (Doc A)
rows_of None = []
rows_of (Some g) = g.table.rows

-- a call that its own words decide, else one without an index, else one on a generation
abbrev pub called_over : {A O F : Type 0} → Words A O F → Registry O → Work A → Bool → Option (Generation (Doc A)) → Option (Generation (Doc A)) → Outcome A
called_over w reg work true read own = (None, (called_in w reg work [] false empty_table).1)
called_over w reg work false read None = (None, refused NotReady)
called_over w reg work false read (Some g) = called_in w reg work (rows_of read) g.blocked g.table

-- a call on its version's generation at its first request and at its last
unfoldable pub called : {A O F : Type 0} → Words A O F → Registry O → Call A → Option (Generation (Doc A)) → Option (Generation (Doc A)) → Outcome A
called w reg call read own = called_over w reg (work_of w reg call) (needs_no_store (work_of w reg call)) read own
