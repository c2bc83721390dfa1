-- What the laws of object calls speak of.
use Rattle.std.specs.Prelude.{◌≡◌, ◌<◌, true, List, [], ◌∷◌, Option, Some, None, IsTrue}
use Rattle.base_model.specs.Keyed.{Text, same, at}
use Rattle.race_model.specs.Stores.{Cell, Rows, Table, Store, Request, Reply, write_all}
use Rattle.race_model.specs.Stores.Request.{Ping, Get, Search, Bulk}
use Rattle.race_model.specs.Generations.{Generation, Generations, of_alias}
use Rattle.race_model.specs.Premises.{FreshWrites, FreshReply}
use Rattle.document_model.specs.Documents.{Doc}
use Rattle.document_model.specs.Registries.{Known, Registry, alias_type, known, fits}
use Rattle.query_model.specs.Queries.{Query}
use Rattle.call_model.specs.declared.refuse.Refuse.{Refuse}
use Rattle.call_model.specs.Calls.{NewObject, One}
use Rattle.call_model.specs.Acts.{raw_of}
use Rattle.call_model.specs.Upgrades.{is_fresh}

-- the table after a call that left this, none where nothing changed
abbrev pub then_on : {D : Type 0} → Option (Table D) → Table D → Table D
then_on None t = t
then_on (Some u) t = u

-- the store has this generation: its alias stands for its index
pub record Shows {D : Type 0} (st : Store D) (g : Generation D) : Type 0 where
  pub no_index : at g.alias st.indices ≡ None
  pub alias : at g.alias st.aliases ≡ Some g.index
  pub source : Option Text
  pub index : at g.index st.indices ≡ Some (record { blocked = g.blocked; source = source; table = g.table })

-- the rows of alias documents are there as they were
abbrev pub KeepsAliases : {A : Type 0} → Table (Doc A) → Table (Doc A) → Type 0
KeepsAliases t u = (raw : Text) (c : Cell (Doc _)) → at raw t.rows ≡ Some c → same c.doc.type_name alias_type ≡ true → at raw u.rows ≡ Some c

-- the request keeps the rows of alias documents
abbrev pub Keeps : {A F : Type 0} → Generations (Doc A) → Request (Doc A) (Query F) → Type 0
Keeps gs (Bulk name writes) = (g : Generation (Doc _)) → of_alias name gs ≡ Some g → KeepsAliases g.table (write_all g.table writes)
Keeps gs _ = Unit {0}

-- each number is below the next
abbrev pub Numbered : {D : Type 0} → Table D → Type 0
Numbered t = (raw : Text) (c : Cell _) → at raw t.rows ≡ Some c → c.seq < t.next

-- the documents that a first reply showed are up to date
abbrev pub HeardFresh : {A O : Type 0} → Registry O → Option (Reply (Doc A)) → Type 0
HeardFresh reg None = Unit {0}
HeardFresh reg (Some reply) = FreshReply (λ raw doc. IsTrue (is_fresh reg doc)) reply

-- a request asks nothing but a read or a bulk of this alias
abbrev pub AsksOnly : {A F : Type 0} → Text → Request (Doc A) (Query F) → Type 0
AsksOnly alias Ping = Unit {0}
AsksOnly alias (Get name raws) = name ≡ alias
AsksOnly alias (Search name query) = name ≡ alias
AsksOnly alias (Bulk name writes) = name ≡ alias
AsksOnly alias _ = ⊥

-- the documents that a request writes are up to date
abbrev pub WritesFresh : {A O F : Type 0} → Registry O → Request (Doc A) (Query F) → Type 0
WritesFresh reg (Bulk name writes) = FreshWrites (λ raw doc. IsTrue (is_fresh reg doc)) writes
WritesFresh reg _ = Unit {0}
