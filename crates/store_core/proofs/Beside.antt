-- Requests on indices, with aliases that stay out of them.
use Rattle.std.proofs.Common.{◌≡◌, ℕ, Bool, true, false, List, Option, Some, None, refl, ◌∙◌, ap}
use Rattle.document_model.specs.Documents.{Doc}
use Rattle.so_js.specs.declared.js.Js.{Js}
use Rattle.base_model.specs.Keyed.{Text, Keyed}
use Rattle.race_model.specs.Stores.{Rows, Index, Write, with_aliases, create_over, block_over, clone_over, copy_of, open_over, close_over, get_over, search_over, bulk_over, bulk_in, Select}
use Rattle.race_model.specs.Stores.Reply.{Refused}
use Rattle.race_model.specs.Stores.Refusal.{NameTaken}
use Rattle.race_model.specs.Stores as stores
use Rattle.store_words.specs.Serving.{Store, Answer}
use Rattle.store_core.specs.Engines.{beside, is_taken_by}

abbrev Held : Type 0
Held = Option (Index (Doc Js))

pub block_beside : (o : Held) (st : Store) (aliases : Keyed Text) (name : Text) → beside aliases (block_over o st name) ≡ block_over o (with_aliases st aliases) name
block_beside None st aliases name = refl
block_beside (Some ix) st aliases name = refl

pub close_beside : (o : Option (Rows (Doc Js))) (st : Store) (aliases : Keyed Text) (p : ℕ) → beside aliases (close_over o st p) ≡ close_over o (with_aliases st aliases) p
close_beside None st aliases p = refl
close_beside (Some rows) st aliases p = refl

pub create_beside : (o : Held) (a : Option Text) (st : Store) (aliases : Keyed Text) (name : Text) (source : Option Text) → is_taken_by o a ≡ false → beside aliases (create_over o None st name source) ≡ create_over o a (with_aliases st aliases) name source
create_beside (Some ix) a st aliases name source e = refl
create_beside None None st aliases name source e = refl
create_beside None (Some i) st aliases name source e = absurd (cc)

pub create_taken : (o : Held) (a : Option Text) (st : Store) (name : Text) (source : Option Text) → is_taken_by o a ≡ true → create_over o a st name source ≡ (st, Refused (NameTaken name))
create_taken (Some ix) a st name source e = absurd (cc)
create_taken None None st name source e = absurd (cc)
create_taken None (Some i) st name source e = refl

pub clone_beside : (o from : Held) (a : Option Text) (st : Store) (aliases : Keyed Text) (source goal : Text) → is_taken_by o a ≡ false → beside aliases (clone_over o None from st source goal) ≡ clone_over o a from (with_aliases st aliases) source goal
clone_beside (Some ix) from a st aliases source goal e = refl
clone_beside None from (Some i) st aliases source goal e = absurd (cc)
clone_beside None None None st aliases source goal e = refl
clone_beside None (Some ix) None st aliases source goal e = by ix.blocked
  where
    by : (b : Bool) → beside aliases (copy_of b ix st source goal) ≡ copy_of b ix (with_aliases st aliases) source goal
    by true = refl
    by false = refl

pub clone_taken : (o from : Held) (a : Option Text) (st : Store) (source goal : Text) → is_taken_by o a ≡ true → clone_over o a from st source goal ≡ (st, Refused (NameTaken goal))
clone_taken (Some ix) from a st source goal e = absurd (cc)
clone_taken None from None st source goal e = absurd (cc)
clone_taken None from (Some i) st source goal e = refl

-- ---- a name that means an index; where there is none the name means itself

pub open_beside : (o : Held) (st : Store) (aliases : Keyed Text) (index name : Text) → (o ≡ None → index ≡ name) → beside aliases (open_over o st index) ≡ open_over o (with_aliases st aliases) name
open_beside None st aliases index name e = rw (e refl) refl
open_beside (Some ix) st aliases index name e = refl

pub bulk_beside : (o : Held) (st : Store) (aliases : Keyed Text) (index name : Text) (ws : List (Write (Doc Js))) → (o ≡ None → index ≡ name) → beside aliases (bulk_over o st index index ws) ≡ bulk_over o (with_aliases st aliases) name index ws
bulk_beside None st aliases index name ws e = rw (e refl) refl
bulk_beside (Some ix) st aliases index name ws e = by ix.blocked
  where
    by : (b : Bool) → beside aliases (bulk_in b ix st index ws) ≡ bulk_in b ix (with_aliases st aliases) index ws
    by true = refl
    by false = refl

pub get_named : (o : Held) (index name : Text) (raws : List Text) → (o ≡ None → index ≡ name) → get_over o index raws ≡ get_over o name raws
get_named None index name raws e = rw (e refl) refl
get_named (Some ix) index name raws e = refl

pub search_named : {Q : Type 0} (sel : Select (Doc Js) Q) (o : Held) (index name : Text) (query : Q) → (o ≡ None → index ≡ name) → search_over sel o index query ≡ search_over sel o name query
search_named sel None index name query e = rw (e refl) refl
search_named sel (Some ix) index name query e = refl

-- a reply that stands for what the indices answered
pub with_reply : (aliases : Keyed Text) (now : Store) (r t : stores.Reply (Doc Js)) (a : Answer) → r ≡ t → (now, t) ≡ a → (with_aliases now aliases, r) ≡ beside aliases a
with_reply aliases now r t a e f = ap (λ (x : stores.Reply (Doc Js)). (with_aliases now aliases, x)) e ∙ ap (beside aliases) f
