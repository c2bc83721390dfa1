-- What the store's definition says of requests and journals of the code.
use Rattle.std.specs.Prelude.{◌≡◌, List, [], ◌∷◌, ⊤}
use Rattle.race_model.specs.Stores as stores
use Rattle.document_model.specs.Documents.{Doc}
use Rattle.query_model.specs.Queries.{select}
use Rattle.so_js.specs.declared.js.Js.{Js}
use Rattle.doc_query.specs.Mapped.{holds_of}
use Rattle.store_words.specs.declared.request.Request.{Request}
use Rattle.store_words.specs.declared.entry.Entry.{Entry}
use Rattle.store_words.specs.Words.{request_of, reply_of}

-- a store of documents
abbrev pub Store : Type 0
Store = stores.Store (Doc Js)

-- a store and a reply
abbrev pub Answer : Type 0
Answer = stores.Answer (Doc Js)

-- one request done whole
abbrev pub served : Store → Request → Answer
served st request = stores.serve (select holds_of) st (request_of request)

-- the store after the entries' requests in order
unfoldable pub replayed : Store → List Entry → Store
replayed st [] = st
replayed st (e ∷ es) = replayed (served st e.request).0 es

-- each entry has the reply that its request gets on the store that the entries before leave
unfoldable pub Replays : Store → List Entry → Type 0
Replays st [] = ⊤
Replays st (e ∷ es) = ((served st e.request).1 ≡ reply_of e.reply) × Replays (served st e.request).0 es
