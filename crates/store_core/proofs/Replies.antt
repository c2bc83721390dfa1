-- What the form of a reply says of the store, and what a short request leaves.
use Rattle.std.proofs.Common.{◌≡◌, ℕ, suc, ◌+◌, ◌^◌, ◌≤◌, ◌<◌, Bool, true, false, List, [], ◌∷◌, length, Option, Some, None, refl, sym, ◌∙◌, ap, subst, arith}
use Rattle.std.specs.Prelude.{⊤}
use Rattle.std.specs.Option.{IfSome}
use Rattle.std.proofs.lemmas.List.{length-map}
use Rattle.document_model.specs.Documents.{Doc}
use Rattle.so_js.specs.declared.js.Js.{Js}
use Rattle.base_model.specs.Keyed.{Text, at}
use Rattle.race_model.specs.Stores.{Rows, Index, Store, Table, Write, Select, Request, Reply, Acted, Answer, serve, write, items_of, meant, pit_at, create_over, block_over, clone_over, copy_of, open_over, close_over, bulk_over, bulk_in, read_over, get_over, search_over, act_all, acted_answer}
use Rattle.race_model.specs.Stores.Acted.{Now, Stuck}
use Rattle.race_model.specs.Stores.Reply.{Done, Pit, Items}
use Rattle.race_model.specs.Replies.{fits_reply}
use Rattle.query_model.specs.Queries.{select}
use Rattle.doc_query.specs.Mapped.{holds_of}
use Rattle.doc_table.specs.Tables.{write_of, item_of}
use Rattle.call_effects.proofs.Replying.{served_fits, query_limits}
use Rattle.store_words.specs.Words.{request_of, reply_of, take_of}
use Rattle.store_words.specs.Links.{IsSendable}
use Rattle.store_words.specs.Serving.{served}
use Rattle.store_words.specs.Serving as serving
use Rattle.store_words.specs.declared.request.Request.{Request as Asked}
use Rattle.store_words.specs.declared.request.Request.TheVariants as asked
use Rattle.store_words.specs.declared.reply.Reply.{Reply as Told}
use Rattle.store_words.specs.declared.reply.Reply.TheVariants as told
use Rattle.store_core.specs.Copies.{writes_in, results_in, IsRead}
use Rattle.store_core.specs.Engines.{HasNumbers}
use Rattle.store_core.specs.Standing.{IsOrderly, HasRoom, reach}
use Rattle.store_core.proofs.Numbers.{all_at, all_more}
use Rattle.store_core.proofs.Orders.{IsShort, serve_fine}

-- the reply tells what is there, or refuses
abbrev Tells : {D : Type 0} → Reply D → Type 0
Tells Done = ⊥
Tells (Pit n) = ⊥
Tells (Items is) = ⊥
Tells _ = ⊤

abbrev results : {D : Type 0} → Reply D → ℕ
results (Items is) = length is
results _ = 0

abbrev writes : {D Q : Type 0} → Request D Q → ℕ
writes (Request.Bulk index ws) = length ws
writes _ = 0

-- a reply that tells leaves the store, and there are as many results as writes at most
record Plain {D : Type 0} (st : Store D) (n : ℕ) (a : Answer D) : Type 0 where
  still : Tells a.1 → a.0 ≡ st
  few : results a.1 ≤ n

same_results : {D : Type 0} (t : Table D) (ws : List (Write D)) → length (items_of t ws) ≡ length ws
unfolding items_of
same_results t [] = refl
same_results t (w ∷ ws) = ap suc (same_results (write t w).0 ws)

module _ {D : Type 0} (st : Store D) (n : ℕ) where
  telling : (r : Reply D) → results r ≡ 0 → Plain st n (st, r)
  telling r e = record { still = λ t. refl; few = omega arith }

  doing : (now : Store D) (r : Reply D) → (Tells r → ⊥) → results r ≡ 0 → Plain st n (now, r)
  doing now r f e = record { still = λ t. absurd (f t); few = omega arith }

  create_plain : (o : Option (Index D)) (a : Option Text) (name : Text) (source : Option Text) → Plain st n (create_over o a st name source)
  create_plain (Some ix) a name source = telling _ refl
  create_plain None (Some i) name source = telling _ refl
  create_plain None None name source = doing _ Done (λ t. t) refl

  block_plain : (o : Option (Index D)) (name : Text) → Plain st n (block_over o st name)
  block_plain None name = telling _ refl
  block_plain (Some ix) name = doing _ Done (λ t. t) refl

  copy_plain : (b : Bool) (ix : Index D) (source goal : Text) → Plain st n (copy_of b ix st source goal)
  copy_plain false ix source goal = telling _ refl
  copy_plain true ix source goal = doing _ Done (λ t. t) refl

  clone_plain : (o : Option (Index D)) (a : Option Text) (from : Option (Index D)) (source goal : Text) → Plain st n (clone_over o a from st source goal)
  clone_plain (Some ix) a from source goal = telling _ refl
  clone_plain None (Some i) from source goal = telling _ refl
  clone_plain None None None source goal = telling _ refl
  clone_plain None None (Some ix) source goal = copy_plain ix.blocked ix source goal

  open_plain : (o : Option (Index D)) (name : Text) → Plain st n (open_over o st name)
  open_plain None name = telling _ refl
  open_plain (Some ix) name = doing _ (Pit st.opened) (λ t. t) refl

  read_plain : {Q : Type 0} (sel : Select D Q) (o : Option (Rows D)) (p : ℕ) (q : Q) → Plain st n (st, read_over sel o p q)
  read_plain sel None p q = telling _ refl
  read_plain sel (Some rows) p q = telling _ refl

  close_plain : (o : Option (Rows D)) (p : ℕ) → Plain st n (close_over o st p)
  close_plain None p = telling _ refl
  close_plain (Some rows) p = doing _ Done (λ t. t) refl

  get_plain : (o : Option (Index D)) (name : Text) (raws : List Text) → Plain st n (st, get_over o name raws)
  get_plain None name raws = telling _ refl
  get_plain (Some ix) name raws = telling _ refl

  search_plain : {Q : Type 0} (sel : Select D Q) (o : Option (Index D)) (name : Text) (q : Q) → Plain st n (st, search_over sel o name q)
  search_plain sel None name q = telling _ refl
  search_plain sel (Some ix) name q = telling _ refl

  acted_plain : (a : Acted D) → Plain st n (acted_answer st a)
  acted_plain (Now new) = doing _ Done (λ t. t) refl
  acted_plain (Stuck why) = telling _ refl

bulk_plain : {D : Type 0} (st : Store D) (o : Option (Index D)) (name index : Text) (ws : List (Write D)) → Plain st (length ws) (bulk_over o st name index ws)
bulk_plain st None name index ws = telling st (length ws) _ refl
bulk_plain st (Some ix) name index ws = by ix.blocked
  where
    by : (b : Bool) → Plain st (length ws) (bulk_in b ix st index ws)
    by true = telling st (length ws) _ refl
    by false = let e = same_results ix.table ws in record { still = λ t. absurd t; few = omega arith }

serve_plain : {D Q : Type 0} (sel : Select D Q) (st : Store D) (ask : Request D Q) → Plain st (writes ask) (serve sel st ask)
unfolding serve
serve_plain sel st Request.Ping = doing st 0 st Done (λ t. t) refl
serve_plain sel st Request.State = telling st 0 _ refl
serve_plain sel st (Request.Create name source) = create_plain st 0 (at name st.indices) (at name st.aliases) name source
serve_plain sel st (Request.Block name) = block_plain st 0 (at name st.indices) name
serve_plain sel st (Request.Clone source goal) = clone_plain st 0 (at goal st.indices) (at goal st.aliases) (at source st.indices) source goal
serve_plain sel st (Request.OpenPit name) = open_plain st 0 (at (meant st name) st.indices) name
serve_plain sel st (Request.ReadPit p query) = read_plain st 0 sel (pit_at p st.pits) p query
serve_plain sel st (Request.ClosePit p) = close_plain st 0 (pit_at p st.pits) p
serve_plain sel st (Request.Get name raws) = get_plain st 0 (at (meant st name) st.indices) name raws
serve_plain sel st (Request.Search name query) = search_plain st 0 sel (at (meant st name) st.indices) name query
serve_plain sel st (Request.Bulk name ws) = bulk_plain st (at (meant st name) st.indices) name (meant st name) ws
serve_plain sel st (Request.Aliases actions) = acted_plain st 0 (act_all (Now st) actions)

-- ---- of the code

short_of : (r : Asked) → IsSendable r → IsShort (request_of r)
short_of asked.Ping h = tt
short_of asked.State h = tt
short_of (asked.Create index source) h = tt
short_of (asked.Block index) h = tt
short_of (asked.Clone source goal) h = tt
short_of (asked.OpenPit index) h = tt
short_of (asked.ReadPit pit query) h = tt
short_of (asked.ClosePit pit) h = tt
short_of (asked.Get index raws) h = tt
short_of (asked.Search index query) h = tt
short_of (asked.Bulk index items) h = let e = length-map items write_of in omega arith
short_of (asked.Aliases actions) h = tt

pub orderly_after : (st : serving.Store) (r : Asked) → IsOrderly st → IsOrderly (served st r).0
orderly_after st r o = (serve_fine (select holds_of) st 0 (request_of r) o).orderly

pub room_after : (st : serving.Store) (n : ℕ) (r : Asked) → IsOrderly st → IsSendable r → HasRoom n st → HasRoom (n + 1) (served st r).0
room_after st n r o s h =
    let f = serve_fine (select holds_of) st (reach n) (request_of r) o in
    let p = f.pits in
    let q = h.pits in
    record { tables = all_more (reach n + 65536) (reach (n + 1)) _ (omega arith) (f.tables (h.tables, short_of r s)); pits = omega arith }

pub reply_fits : (st : serving.Store) (r : Asked) → IsOrderly st → fits_reply take_of (request_of r) (served st r).1 ≡ true
reply_fits st r o = served_fits take_of (select holds_of) (query_limits holds_of) st (request_of r) o.indices o.aliases

-- the numbers of a store that has served fewer than 4,000,000 requests are enough for another
pub has_numbers : (st : serving.Store) (n : ℕ) (r : Asked) → HasRoom n st → n < 4000000 → IsSendable r → HasNumbers st r
has_numbers st n asked.Ping h l s = tt
has_numbers st n asked.State h l s = tt
has_numbers st n (asked.Create index source) h l s = tt
has_numbers st n (asked.Block index) h l s = tt
has_numbers st n (asked.Clone source goal) h l s = tt
has_numbers st n (asked.OpenPit index) h l s = let p = h.pits in omega arith
has_numbers st n (asked.ReadPit pit query) h l s = tt
has_numbers st n (asked.ClosePit pit) h l s = tt
has_numbers st n (asked.Get index raws) h l s = tt
has_numbers st n (asked.Search index query) h l s = tt
has_numbers st n (asked.Bulk index items) h l s = by (at (meant st index) st.indices) refl
  where
    by : (o : Option (Index (Doc Js))) → at (meant st index) st.indices ≡ o → IfSome o (λ ix. ix.table.next + length items ≤ 2 ^ 63)
    by None e = tt
    by (Some ix) e = let w = (all_at (reach n) (meant st index) ix st.indices e h.tables).next in omega arith
has_numbers st n (asked.Aliases actions) h l s = tt

tells_of : (r : Told) → IsRead r → Tells (reply_of r)
tells_of told.Done h = absurd h
tells_of (told.State indices aliases) h = tt
tells_of (told.Pit number) h = absurd h
tells_of (told.Rows selected) h = tt
tells_of (told.Found rows) h = tt
tells_of (told.Items items) h = absurd h
tells_of (told.Refused why) h = tt

-- a reply that tells leaves the store as it was
pub read_leaves : (st now : serving.Store) (r : Asked) (t : Told) → (now, reply_of t) ≡ served st r → IsRead t → now ≡ st
read_leaves st now r t e h =
    let p = serve_plain (select holds_of) st (request_of r) in
    ap (λ (a : serving.Answer). a.0) e ∙ p.still (subst (λ (x : Reply (Doc Js)). Tells x) (ap (λ (a : serving.Answer). a.1) e) (tells_of t h))

writes_of : (r : Asked) → writes (request_of r) ≡ writes_in r
writes_of asked.Ping = refl
writes_of asked.State = refl
writes_of (asked.Create index source) = refl
writes_of (asked.Block index) = refl
writes_of (asked.Clone source goal) = refl
writes_of (asked.OpenPit index) = refl
writes_of (asked.ReadPit pit query) = refl
writes_of (asked.ClosePit pit) = refl
writes_of (asked.Get index raws) = refl
writes_of (asked.Search index query) = refl
writes_of (asked.Bulk index items) = length-map items write_of
writes_of (asked.Aliases actions) = refl

results_of : (t : Told) → results (reply_of t) ≡ results_in t
results_of told.Done = refl
results_of (told.State indices aliases) = refl
results_of (told.Pit number) = refl
results_of (told.Rows selected) = refl
results_of (told.Found rows) = refl
results_of (told.Items items) = length-map items item_of
results_of (told.Refused why) = refl

-- a reply has no more results than its request has writes
pub few_results : (st now : serving.Store) (r : Asked) (t : Told) → (now, reply_of t) ≡ served st r → results_in t ≤ writes_in r
few_results st now r t e =
    let p = (serve_plain (select holds_of) st (request_of r)).few in
    let a = ap (λ (x : serving.Answer). results x.1) e in
    let b = writes_of r in
    let c = results_of t in
    omega arith

-- ---- where a store and a reply are what is served

pub orderly_now : (st now : serving.Store) (r : Asked) (t : Told) → (now, reply_of t) ≡ served st r → IsOrderly st → IsOrderly now
orderly_now st now r t e o = subst (λ (x : serving.Store). IsOrderly x) (sym (ap (λ (a : serving.Answer). a.0) e)) (orderly_after st r o)

pub fits_now : (st now : serving.Store) (r : Asked) (t : Told) → (now, reply_of t) ≡ served st r → IsOrderly st → fits_reply take_of (request_of r) (reply_of t) ≡ true
fits_now st now r t e o = ap (λ (a : serving.Answer). fits_reply take_of (request_of r) a.1) e ∙ reply_fits st r o

pub room_now : (st now : serving.Store) (n : ℕ) (r : Asked) (t : Told) → (now, reply_of t) ≡ served st r → IsOrderly st → IsSendable r → HasRoom n st → HasRoom (n + 1) now
room_now st now n r t e o s h = subst (λ (x : serving.Store). HasRoom (n + 1) x) (sym (ap (λ (a : serving.Answer). a.0) e)) (room_after st n r o s h)
