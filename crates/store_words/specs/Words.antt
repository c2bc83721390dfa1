-- What requests, replies, entries and events of the code are in the definitions.
use Rattle.std.specs.Prelude.{ℕ, ◌-◌, List, map, Option, option_map, nat_lt, if◌then◌else◌}
use Rattle.base_model.specs.Keyed.{Text, Keyed}
use Rattle.race_model.specs.Stores as stores
use Rattle.race_model.specs.Worlds as worlds
use Rattle.document_model.specs.Documents.{Doc}
use Rattle.query_model.specs.Queries as queries
use Rattle.so_js.specs.declared.js.Js.{Js}
use Rattle.alias_table.specs.Plans.{action_of, keyed_of}
use Rattle.doc_query.specs.Mapped.{query_of, cell_of, cells_of}
use Rattle.doc_table.specs.Tables.{write_of, item_of}
use Rattle.store_words.specs.declared.request.Request.{Request}
use Rattle.store_words.specs.declared.request.Request.TheVariants.{Ping, State as AskState, Create, Block, Clone, OpenPit, ReadPit, ClosePit, Get, Search, Bulk, Aliases}
use Rattle.store_words.specs.declared.reply.Reply.{Reply}
use Rattle.store_words.specs.declared.reply.Reply.TheVariants.{Done, State, Pit, Rows, Found, Items, Refused}
use Rattle.store_words.specs.declared.reply.IndexSeen.{IndexSeen}
use Rattle.store_words.specs.declared.refusal.Refusal.{Refusal}
use Rattle.store_words.specs.declared.refusal.Refusal.TheVariants.{Exists, NameTaken, NoIndex, NotBlocked, Blocked, NoPit, AliasMissing, AliasTaken}
use Rattle.store_words.specs.declared.entry.How.{How}
use Rattle.store_words.specs.declared.entry.How.TheVariants.{Heard, Unheard, Late}
use Rattle.store_words.specs.declared.entry.Entry.{Entry}
use Rattle.store_words.specs.declared.event.Event.{Event}
use Rattle.store_words.specs.declared.event.Event.TheVariants.{Step, Lost, Again, Stop, Start, Client, Cut}

-- a query, with its filter as the filter's text
abbrev pub TextQuery : Type 0
TextQuery = queries.Query Text

-- how many rows a query takes at most
abbrev pub take_of : TextQuery → Option ℕ
take_of q = q.limit

abbrev pub request_of : Request → stores.Request (Doc Js) TextQuery
request_of Ping = stores.Request.Ping
request_of AskState = stores.Request.State
request_of (Create index source) = stores.Request.Create index source
request_of (Block index) = stores.Request.Block index
request_of (Clone source goal) = stores.Request.Clone source goal
request_of (OpenPit index) = stores.Request.OpenPit index
request_of (ReadPit pit query) = stores.Request.ReadPit pit (query_of query)
request_of (ClosePit pit) = stores.Request.ClosePit pit
request_of (Get index raws) = stores.Request.Get index raws
request_of (Search index query) = stores.Request.Search index (query_of query)
request_of (Bulk index items) = stores.Request.Bulk index (map write_of items)
request_of (Aliases actions) = stores.Request.Aliases (map action_of actions)

abbrev pub refusal_of : Refusal → stores.Refusal
refusal_of (Exists name source) = stores.Refusal.Exists name source
refusal_of (NameTaken name) = stores.Refusal.NameTaken name
refusal_of (NoIndex name) = stores.Refusal.NoIndex name
refusal_of (NotBlocked name) = stores.Refusal.NotBlocked name
refusal_of (Blocked name) = stores.Refusal.Blocked name
refusal_of (NoPit pit) = stores.Refusal.NoPit pit
refusal_of (AliasMissing alias index) = stores.Refusal.AliasMissing alias index
refusal_of (AliasTaken alias index) = stores.Refusal.AliasTaken alias index

-- an index that a State shows, under its name
abbrev pub seen_of : IndexSeen → Text × stores.IndexSeen
seen_of i = (i.name, record { blocked = i.blocked; source = i.source })

abbrev pub all_seen : List IndexSeen → Keyed stores.IndexSeen
all_seen indices = map seen_of indices

abbrev pub reply_of : Reply → stores.Reply (Doc Js)
reply_of Done = stores.Reply.Done
reply_of (State indices aliases) = stores.Reply.Seen (all_seen indices) (keyed_of aliases)
reply_of (Pit p) = stores.Reply.Pit p
reply_of (Rows selected) = stores.Reply.Selected selected.total (cells_of selected.rows)
reply_of (Found rows) = stores.Reply.Found (map (option_map cell_of) rows)
reply_of (Items items) = stores.Reply.Items (map item_of items)
reply_of (Refused why) = stores.Reply.Refused (refusal_of why)

abbrev pub how_of : How → worlds.How
how_of Heard = worlds.How.Heard
how_of Unheard = worlds.How.Unheard
how_of Late = worlds.How.Late

-- an actor by its number: clients count from 100
abbrev pub actor_of : ℕ → worlds.Actor
actor_of n = if nat_lt n 100 then worlds.Actor.Instance n else worlds.Actor.Client (n - 100)

abbrev pub entry_of : Entry → worlds.Entry (Doc Js) TextQuery
entry_of e = record { actor = actor_of e.actor; tag = e.tag; how = how_of e.how; request = request_of e.request; reply = reply_of e.reply }

abbrev pub event_of : Event → worlds.Event
event_of (Step instance) = worlds.Event.Step instance
event_of (Lost instance done) = worlds.Event.Lost instance done
event_of (Again instance send) = worlds.Event.Again instance send
event_of (Stop instance) = worlds.Event.Stop instance
event_of (Start instance) = worlds.Event.Start instance
event_of (Client client) = worlds.Event.Client client
event_of (Cut client done) = worlds.Event.Cut client done
