-- A store of indices: what a request replies, and what it leaves.
use Rattle.std.specs.Prelude.{ℕ, ◌+◌, Bool, true, false, List, [], ◌∷◌, length, map, Option, Some, None, ◌==◌, if◌then◌else◌}
use Rattle.base_model.specs.Keyed.{Text, same, Keyed, at, put, without}

-- a document and the number of the write that left it
pub record Cell (D : Type 0) : Type 0 where
  pub seq : ℕ
  pub doc : D

-- rows under their raw ids
abbrev pub Rows : Type 0 → Type 0
Rows D = Keyed (Cell D)

-- rows and the number of the next write
pub record Table (D : Type 0) : Type 0 where
  pub rows : Rows D
  pub next : ℕ

-- one write of a bulk request
pub data Write (D : Type 0) : Type 0 where
  Create : (raw : Text) → (doc : D) → Write D
  Put : (raw : Text) → (doc : D) → (expect : Option ℕ) → Write D
  Delete : (raw : Text) → (expect : Option ℕ) → Write D

-- the result of one write
pub data Item : Type 0 where
  Written : ℕ → Item
  Exists : ℕ → Item
  Conflict : Option ℕ → Item
  NotFound : Item

-- no rows
abbrev pub empty_table : {D : Type 0} → Table D
empty_table = record { rows = []; next = 0 }

-- the row is added or replaced with the next number
abbrev pub written : {D : Type 0} → Table D → Text → D → Table D
written t raw doc = record { rows = put raw (record { seq = t.next; doc = doc }) t.rows; next = t.next + 1 }

-- the row is taken away
abbrev pub dropped : {D : Type 0} → Table D → Text → Table D
dropped t raw = record { rows = without raw t.rows; next = t.next + 1 }

-- the number that a conditional write wants is the row's
abbrev pub expected : Option ℕ → ℕ → Bool
expected None seq = true
expected (Some n) seq = n == seq

-- a create, by the row that is there
abbrev pub new_over : {D : Type 0} → Option (Cell D) → Table D → Text → D → Table D × Item
new_over None t raw doc = (written t raw doc, Written t.next)
new_over (Some c) t raw doc = (t, Item.Exists c.seq)

-- a put, by the row that is there
abbrev pub put_over : {D : Type 0} → Option (Cell D) → Table D → Text → D → Option ℕ → Table D × Item
put_over None t raw doc None = (written t raw doc, Written t.next)
put_over None t raw doc (Some n) = (t, Conflict None)
put_over (Some c) t raw doc expect = if expected expect c.seq then (written t raw doc, Written t.next) else (t, Conflict (Some c.seq))

-- a delete, by the row that is there
abbrev pub delete_over : {D : Type 0} → Option (Cell D) → Table D → Text → Option ℕ → Table D × Item
delete_over None t raw expect = (t, NotFound)
delete_over (Some c) t raw expect = if expected expect c.seq then (dropped t raw, Written t.next) else (t, Conflict (Some c.seq))

-- one write
unfoldable pub write : {D : Type 0} → Table D → Write D → Table D × Item
write t (Write.Create raw doc) = new_over (at raw t.rows) t raw doc
write t (Put raw doc expect) = put_over (at raw t.rows) t raw doc expect
write t (Delete raw expect) = delete_over (at raw t.rows) t raw expect

-- the table after writes in order
unfoldable pub write_all : {D : Type 0} → Table D → List (Write D) → Table D
write_all t [] = t
write_all t (w ∷ ws) = write_all (write t w).0 ws

-- the result of each write
unfoldable pub items_of : {D : Type 0} → Table D → List (Write D) → List Item
items_of t [] = []
items_of t (w ∷ ws) = (write t w).1 ∷ items_of (write t w).0 ws

-- the same rows numbered from n in order
unfoldable pub numbered : {D : Type 0} → ℕ → Rows D → Rows D
numbered n [] = []
numbered n (r ∷ rs) = (r.0, record { seq = n; doc = r.1.doc }) ∷ numbered (n + 1) rs

-- the same documents with the numbers 0, 1, ..
abbrev pub renumbered : {D : Type 0} → Table D → Table D
renumbered t = record { rows = numbered 0 t.rows; next = length t.rows }

-- an index, with the index that it was made from, if any
pub record Index (D : Type 0) : Type 0 where
  pub blocked : Bool
  pub source : Option Text
  pub table : Table D

-- what a State request shows of an index
pub record IndexSeen : Type 0 where
  pub blocked : Bool
  pub source : Option Text

-- indices, aliases, how many points in time were opened, and those that are open with their rows
pub record Store (D : Type 0) : Type 0 where
  pub indices : Keyed (Index D)
  pub aliases : Keyed Text
  pub opened : ℕ
  pub pits : List (ℕ × Rows D)

-- one action of an alias request
pub data Action : Type 0 where
  RemoveMustExist : (alias index : Text) → Action
  Add : (alias index : Text) → Action
  RemoveIndex : (index : Text) → Action

-- what an actor asks of the store
pub data Request (D Q : Type 0) : Type 0 where
  Ping : Request D Q
  State : Request D Q
  Create : (index : Text) → (source : Option Text) → Request D Q
  Block : (index : Text) → Request D Q
  Clone : (source goal : Text) → Request D Q
  OpenPit : (index : Text) → Request D Q
  ReadPit : (pit : ℕ) → (query : Q) → Request D Q
  ClosePit : (pit : ℕ) → Request D Q
  Get : (index : Text) → (raws : List Text) → Request D Q
  Search : (index : Text) → (query : Q) → Request D Q
  Bulk : (index : Text) → (writes : List (Write D)) → Request D Q
  Aliases : (actions : List Action) → Request D Q

-- why a request is refused
pub data Refusal : Type 0 where
  Exists : (name : Text) → (source : Option Text) → Refusal
  NameTaken : Text → Refusal
  NoIndex : Text → Refusal
  NotBlocked : Text → Refusal
  Blocked : Text → Refusal
  NoPit : ℕ → Refusal
  AliasMissing : Text → Text → Refusal
  AliasTaken : Text → Text → Refusal

-- what the store replies
pub data Reply (D : Type 0) : Type 0 where
  Done : Reply D
  Seen : (indices : Keyed IndexSeen) → (aliases : Keyed Text) → Reply D
  Pit : ℕ → Reply D
  Selected : (total : ℕ) → (rows : Rows D) → Reply D
  Found : List (Option (Text × Cell D)) → Reply D
  Items : List Item → Reply D
  Refused : Refusal → Reply D

-- what queries select, which the store doesn't look into
pub record Select (D Q : Type 0) : Type 0 where
  pub rows : Q → Rows D → Rows D
  pub total : Q → Rows D → ℕ

-- the rows of an open pit
unfoldable pub pit_at : {D : Type 0} → ℕ → List (ℕ × Rows D) → Option (Rows D)
pit_at p [] = None
pit_at p (e ∷ es) = if p == e.0 then Some e.1 else pit_at p es

-- without this point in time
unfoldable pub close : {D : Type 0} → ℕ → List (ℕ × Rows D) → List (ℕ × Rows D)
close p [] = []
close p (e ∷ es) = if p == e.0 then close p es else e ∷ close p es

-- the index that an alias stands for, and else the name itself
abbrev pub or_name : Option Text → Text → Text
or_name None name = name
or_name (Some index) name = index

-- the index that is meant by a name in a read or a bulk
abbrev pub index_of : {D : Type 0} → Option (Index D) → Store D → Text → Text
index_of (Some ix) st name = name
index_of None st name = or_name (at name st.aliases) name

-- the index that a name means
unfoldable pub meant : {D : Type 0} → Store D → Text → Text
meant st name = index_of (at name st.indices) st name

-- the store with this index under the name
abbrev pub with_index : {D : Type 0} → Store D → Text → Index D → Store D
with_index st name ix = record { indices = put name ix st.indices; aliases = st.aliases; opened = st.opened; pits = st.pits }

-- each answer of a request is a store and a reply
abbrev pub Answer : Type 0 → Type 0
Answer D = Store D × Reply D

-- Create, by the index and the alias of that name
abbrev pub create_over : {D : Type 0} → Option (Index D) → Option Text → Store D → Text → Option Text → Answer D
create_over (Some ix) alias st name source = (st, Refused (Refusal.Exists name ix.source))
create_over None (Some i) st name source = (st, Refused (NameTaken name))
create_over None None st name source = (with_index st name (record { blocked = false; source = source; table = empty_table }), Done)

-- Block, by the index
abbrev pub block_over : {D : Type 0} → Option (Index D) → Store D → Text → Answer D
block_over None st name = (st, Refused (NoIndex name))
block_over (Some ix) st name = (with_index st name (record { blocked = true; source = ix.source; table = ix.table }), Done)

-- a copy of a blocked index
abbrev pub copy_of : {D : Type 0} → Bool → Index D → Store D → Text → Text → Answer D
copy_of false ix st source goal = (st, Refused (NotBlocked source))
copy_of true ix st source goal = (with_index st goal (record { blocked = false; source = ix.source; table = renumbered ix.table }), Done)

-- Clone, by the index and the alias of the goal's name and the index to be copied
abbrev pub clone_over : {D : Type 0} → Option (Index D) → Option Text → Option (Index D) → Store D → Text → Text → Answer D
clone_over (Some ix) alias from st source goal = (st, Refused (Refusal.Exists goal ix.source))
clone_over None (Some i) from st source goal = (st, Refused (NameTaken goal))
clone_over None None None st source goal = (st, Refused (NoIndex source))
clone_over None None (Some ix) st source goal = copy_of ix.blocked ix st source goal

-- OpenPit, by the index
abbrev pub open_over : {D : Type 0} → Option (Index D) → Store D → Text → Answer D
open_over None st name = (st, Refused (NoIndex name))
open_over (Some ix) st name =
    (record { indices = st.indices; aliases = st.aliases; opened = st.opened + 1; pits = (st.opened, ix.table.rows) ∷ st.pits }, Pit st.opened)

-- ReadPit, by the rows of the point in time
abbrev pub read_over : {D Q : Type 0} → Select D Q → Option (Rows D) → ℕ → Q → Reply D
read_over sel None p query = Refused (NoPit p)
read_over sel (Some rows) p query = Selected (sel.total query rows) (sel.rows query rows)

-- ClosePit, by the rows of the point in time
abbrev pub close_over : {D : Type 0} → Option (Rows D) → Store D → ℕ → Answer D
close_over None st p = (st, Refused (NoPit p))
close_over (Some rows) st p = (record { indices = st.indices; aliases = st.aliases; opened = st.opened; pits = close p st.pits }, Done)

-- a row with its raw id
abbrev pub found_one : {D : Type 0} → Option (Cell D) → Text → Option (Text × Cell D)
found_one None raw = None
found_one (Some c) raw = Some (raw, c)

-- a row or none for each raw id
abbrev pub found : {D : Type 0} → Rows D → List Text → List (Option (Text × Cell D))
found rows [] = []
found rows (raw ∷ raws) = found_one (at raw rows) raw ∷ found rows raws

-- Get, by the index
abbrev pub get_over : {D : Type 0} → Option (Index D) → Text → List Text → Reply D
get_over None name raws = Refused (NoIndex name)
get_over (Some ix) name raws = Found (found ix.table.rows raws)

-- Search, by the index
abbrev pub search_over : {D Q : Type 0} → Select D Q → Option (Index D) → Text → Q → Reply D
search_over sel None name query = Refused (NoIndex name)
search_over sel (Some ix) name query = Selected (sel.total query ix.table.rows) (sel.rows query ix.table.rows)

-- a bulk of an index, by its block
abbrev pub bulk_in : {D : Type 0} → Bool → Index D → Store D → Text → List (Write D) → Answer D
bulk_in true ix st index writes = (st, Refused (Blocked index))
bulk_in false ix st index writes = (with_index st index (record { blocked = false; source = ix.source; table = write_all ix.table writes }), Items (items_of ix.table writes))

-- Bulk, by the index
abbrev pub bulk_over : {D : Type 0} → Option (Index D) → Store D → Text → Text → List (Write D) → Answer D
bulk_over None st name index writes = (st, Refused (NoIndex name))
bulk_over (Some ix) st name index writes = bulk_in ix.blocked ix st index writes

-- what an action leaves, or why it is refused
pub data Acted (D : Type 0) : Type 0 where
  Now : Store D → Acted D
  Stuck : Refusal → Acted D

-- the store with these aliases
abbrev pub with_aliases : {D : Type 0} → Store D → Keyed Text → Store D
with_aliases st aliases = record { indices = st.indices; aliases = aliases; opened = st.opened; pits = st.pits }

-- RemoveMustExist, by the index that the alias names
abbrev pub remove_over : {D : Type 0} → Option Text → Store D → Text → Text → Acted D
remove_over None st alias index = Stuck (AliasMissing alias index)
remove_over (Some i) st alias index = if same i index then Now (with_aliases st (without alias st.aliases)) else Stuck (AliasMissing alias index)

-- Add, by the index, the index of the alias's name, and the index that the alias names
abbrev pub add_over : {D : Type 0} → Option (Index D) → Option (Index D) → Option Text → Store D → Text → Text → Acted D
add_over None named held st alias index = Stuck (NoIndex index)
add_over (Some ix) (Some iy) held st alias index = Stuck (NameTaken alias)
add_over (Some ix) None None st alias index = Now (with_aliases st (put alias index st.aliases))
add_over (Some ix) None (Some i) st alias index = if same i index then Now st else Stuck (AliasTaken alias i)

-- the aliases that name another index
unfoldable pub aliases_without : Text → Keyed Text → Keyed Text
aliases_without index [] = []
aliases_without index (e ∷ es) = if same e.1 index then aliases_without index es else e ∷ aliases_without index es

-- RemoveIndex, by the index
abbrev pub drop_over : {D : Type 0} → Option (Index D) → Store D → Text → Acted D
drop_over None st index = Stuck (NoIndex index)
drop_over (Some ix) st index = Now (record { indices = without index st.indices; aliases = aliases_without index st.aliases; opened = st.opened; pits = st.pits })

-- one action
unfoldable pub act : {D : Type 0} → Store D → Action → Acted D
act st (RemoveMustExist alias index) = remove_over (at alias st.aliases) st alias index
act st (Add alias index) = add_over (at index st.indices) (at alias st.indices) (at alias st.aliases) st alias index
act st (RemoveIndex index) = drop_over (at index st.indices) st index

-- actions in order, up to the first refusal
unfoldable pub act_all : {D : Type 0} → Acted D → List Action → Acted D
act_all acted [] = acted
act_all (Stuck why) (a ∷ actions) = Stuck why
act_all (Now st) (a ∷ actions) = act_all (act st a) actions

-- an alias request is done whole or not at all
abbrev pub acted_answer : {D : Type 0} → Store D → Acted D → Answer D
acted_answer st (Now new) = (new, Done)
acted_answer st (Stuck why) = (st, Refused why)

-- what a State shows of the indices
abbrev pub seen : {D : Type 0} → Keyed (Index D) → Keyed IndexSeen
seen ixs = map (λ e. (e.0, record { blocked = e.1.blocked; source = e.1.source })) ixs

-- one request done whole
unfoldable pub serve : {D Q : Type 0} → Select D Q → Store D → Request D Q → Answer D
serve sel st Ping = (st, Done)
serve sel st Request.State = (st, Seen (seen st.indices) st.aliases)
serve sel st (Create name source) = create_over (at name st.indices) (at name st.aliases) st name source
serve sel st (Block name) = block_over (at name st.indices) st name
serve sel st (Clone source goal) = clone_over (at goal st.indices) (at goal st.aliases) (at source st.indices) st source goal
serve sel st (OpenPit name) = open_over (at (meant st name) st.indices) st name
serve sel st (ReadPit p query) = (st, read_over sel (pit_at p st.pits) p query)
serve sel st (ClosePit p) = close_over (pit_at p st.pits) st p
serve sel st (Get name raws) = (st, get_over (at (meant st name) st.indices) name raws)
serve sel st (Search name query) = (st, search_over sel (at (meant st name) st.indices) name query)
serve sel st (Bulk name writes) = bulk_over (at (meant st name) st.indices) st name (meant st name) writes
serve sel st (Aliases actions) = acted_answer st (act_all (Now st) actions)
