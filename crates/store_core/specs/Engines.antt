-- A store of indices together with aliases: the store that both stand for.
use Rattle.std.specs.Prelude.{◌≡◌, ◌+◌, ◌<◌, ◌≤◌, ◌^◌, ⊤, Bool, true, false, if◌then◌else◌, List, [], ◌∷◌, length, Option, Some, None}
use Rattle.std.specs.Option.{is_some, IsSome, IfSome}
use Rattle.base_model.specs.Keyed.{Text, Keyed, same, at, put, without}
use Rattle.race_model.specs.Stores.{Index, meant, with_aliases}
use Rattle.race_model.specs.Stores as stores
use Rattle.document_model.specs.Documents.{Doc}
use Rattle.so_js.specs.declared.js.Js.{Js}
use Rattle.alias_table.specs.Plans.{keyed_of}
use Rattle.alias_table.specs.declared.pair.Pair.{Pair}
use Rattle.index_store.specs.Indices.{opened_store, without_index}
use Rattle.index_store.specs.declared.opened.Opened.{Opened}
use Rattle.store_words.specs.Serving.{Store, Answer}
use Rattle.store_words.specs.Words.{reply_of}
use Rattle.store_words.specs.declared.reply.Reply.{Reply}
use Rattle.store_words.specs.declared.request.Request.{Request}
use Rattle.store_words.specs.declared.request.Request.TheVariants.{OpenPit, Bulk}

-- the store of these indices with these aliases
abbrev pub store_of : Store → List Pair → Store
store_of indices pairs = with_aliases indices (keyed_of pairs)

-- an answer of the store of indices, with these aliases
abbrev pub beside : Keyed Text → Answer → Answer
beside aliases a = (with_aliases a.0 aliases, a.1)

-- the store of these indices with these aliases, and a reply
abbrev pub answer_of : Store → List Pair → stores.Reply (Doc Js) → Answer
answer_of indices pairs reply = (store_of indices pairs, reply)

-- ---- how it begins

-- the aliases after these pairs, of two of one alias the later
unfoldable pub paired_after : Keyed Text → List Pair → Keyed Text
paired_after aliases [] = aliases
paired_after aliases (p ∷ ps) = paired_after (put p.alias p.index aliases) ps

-- the store of these indices and aliases, without points in time
abbrev pub opened_with : List Opened → List Pair → Store
opened_with indices pairs = with_aliases (opened_store indices) (paired_after [] pairs)

-- an index of this name is among them
unfoldable pub is_named : List Opened → Text → Bool
is_named [] name = false
is_named (o ∷ os) name = if same name o.name then true else is_named os name

-- an alias that an opening may have: no index's name, and it names an index
pub record IsAliasOf (indices : List Opened) (p : Pair) : Type 0 where
  pub apart : is_named indices p.alias ≡ false
  pub named : is_named indices p.index ≡ true

-- ---- what can be asked

-- the numbers that a request takes are below 2^63
abbrev pub HasNumbers : Store → Request → Type 0
HasNumbers st (OpenPit index) = st.opened < 2 ^ 63
HasNumbers st (Bulk index items) = IfSome (at (meant st index) st.indices) (λ ix. ix.table.next + length items ≤ 2 ^ 63)
HasNumbers st _ = ⊤

-- an alias has a name, and no index
abbrev pub is_taken_by : Option (Index (Doc Js)) → Option Text → Bool
is_taken_by (Some ix) alias = false
is_taken_by None alias = is_some alias

-- ---- how aliases change

-- a reply refuses for this cause, which there is
abbrev pub IsRefusal : Reply → Option stores.Refusal → Type 0
IsRefusal reply None = ⊥
IsRefusal reply (Some why) = reply_of reply ≡ stores.Reply.Refused why

-- the store without these indices, taken out in order
unfoldable pub without_all : Store → (removed : List Text) → Store
without_all st [] = st
without_all st (r ∷ removed) = without_all (without_index st r) removed

-- each is there when it is taken out in order
unfoldable pub AreThere : Keyed (Index (Doc Js)) → List Text → Type 0
AreThere indices [] = Unit {0}
AreThere indices (r ∷ removed) = IsSome (at r indices) × AreThere (without r indices) removed
