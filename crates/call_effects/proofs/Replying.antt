-- The store's replies fit their requests.
use Rattle.std.proofs.Common.{◌≡◌, ℕ, zero, suc, ◌≤◌, Bool, true, false, not, Option, Some, None, List, [], ◌∷◌, length, take, drop, refl, arith, ◌==◌, if◌then◌else◌}
use Rattle.std.proofs.lemmas.Bool.Decides.{nat_tests}
use Rattle.base_model.specs.Keyed.{Text, Keyed, same, at, text_lt}
use Rattle.race_model.specs.Stores.{Cell, Rows, Table, Index, IndexSeen, Store, Select, Write, Item, Action, Request, Reply, Acted, write, write_all, items_of, found, found_one, new_over, put_over, delete_over, written, dropped, expected, create_over, block_over, clone_over, copy_of, open_over, read_over, pit_at, close_over, get_over, search_over, bulk_over, bulk_in, seen, act, act_all, acted_answer, remove_over, add_over, drop_over, meant, serve}
use Rattle.race_model.specs.Stores.Acted.{Now, Stuck}
use Rattle.race_model.specs.Generations.{Generation, Generations, of_alias, get_in, search_in, bulk_reply, bulk_in_one, told_by}
use Rattle.race_model.specs.Sorted.{AllAbove, IsSorted}
use Rattle.race_tables.proofs.Keys.{same_refl}
use Rattle.document_model.specs.Documents.{Doc}
use Rattle.query_model.specs.Queries.{Query, Holds, in_order, chosen, limited, select}
use Rattle.race_model.specs.Replies.{rising_from, rising, within, fits_found, fits_all_found, fits_item, fits_items, fits_reply}

-- at most as many rows as each query takes
abbrev pub Limits : {D Q : Type 0} → (Q → Option ℕ) → Select D Q → Type 0
Limits limit_of sel = (q : _) (rows : Rows _) → within (limit_of q) (length (sel.rows q rows)) ≡ true

names_rise_from : {V : Type 0} (k : Text) (es : Keyed V) → AllAbove k es → IsSorted es → rising_from k es ≡ true
unfolding AllAbove IsSorted rising_from
names_rise_from k [] a s = refl
names_rise_from k (e ∷ es) a s = rw a.0 (names_rise_from e.0 es s.0 s.1)

names_rise : {V : Type 0} (es : Keyed V) → IsSorted es → rising es ≡ true
unfolding IsSorted
names_rise [] s = refl
names_rise (e ∷ es) s = names_rise_from e.0 es s.0 s.1

sym_test : (s n : ℕ) → (s == n) ≡ false → not (n == s) ≡ true
sym_test s n e = let f : (n == s) ≡ false = grind (arith, nat_tests) in rw f refl

module _ {D : Type 0} where
  seen_rising : (k : Text) (es : Keyed (Index D)) → AllAbove k es → IsSorted es → rising_from k (seen es) ≡ true
  unfolding AllAbove IsSorted rising_from
  seen_rising k [] a s = refl
  seen_rising k (e ∷ es) a s = rw a.0 (seen_rising e.0 es s.0 s.1)

  all_seen : (es : Keyed (Index D)) → IsSorted es → rising (seen es) ≡ true
  unfolding IsSorted
  all_seen [] s = refl
  all_seen (e ∷ es) s = seen_rising e.0 es s.0 s.1

  found_is_of : (o : Option (Cell D)) (raw : Text) → fits_found raw (found_one o raw) ≡ true
  found_is_of None raw = refl
  found_is_of (Some c) raw = same_refl raw

  found_are_of : (rows : Rows D) (raws : List Text) → fits_all_found raws (found rows raws) ≡ true
  unfolding fits_all_found
  found_are_of rows [] = refl
  found_are_of rows (raw ∷ raws) = rw (found_is_of (at raw rows) raw) (found_are_of rows raws)

  item_new : (o : Option (Cell D)) (t : Table D) (raw : Text) (doc : D) → fits_item (Write.Create raw doc) (new_over o t raw doc).1 ≡ true
  item_new None t raw doc = refl
  item_new (Some c) t raw doc = refl

  item_put : (o : Option (Cell D)) (t : Table D) (raw : Text) (doc : D) (expect : Option ℕ) → fits_item (Write.Put raw doc expect) (put_over o t raw doc expect).1 ≡ true
  item_put None t raw doc None = refl
  item_put None t raw doc (Some s) = refl
  item_put (Some c) t raw doc None = refl
  item_put (Some c) t raw doc (Some s) = by (s == c.seq) refl
    where
      by : (b : Bool) → (s == c.seq) ≡ b → fits_item (Write.Put raw doc (Some s)) (if◌then◌else◌ {A = Table D × Item} b (written t raw doc, Item.Written t.next) (t, Item.Conflict (Some c.seq))).1 ≡ true
      by true e = refl
      by false e = sym_test s c.seq e

  item_delete : (o : Option (Cell D)) (t : Table D) (raw : Text) (expect : Option ℕ) → fits_item {D = D} (Write.Delete raw expect) (delete_over o t raw expect).1 ≡ true
  item_delete None t raw None = refl
  item_delete None t raw (Some s) = refl
  item_delete (Some c) t raw None = refl
  item_delete (Some c) t raw (Some s) = by (s == c.seq) refl
    where
      by : (b : Bool) → (s == c.seq) ≡ b → fits_item {D = D} (Write.Delete raw (Some s)) (if◌then◌else◌ {A = Table D × Item} b (dropped t raw, Item.Written t.next) (t, Item.Conflict (Some c.seq))).1 ≡ true
      by true e = refl
      by false e = sym_test s c.seq e

  item_fits : (t : Table D) (x : Write D) → fits_item x (write t x).1 ≡ true
  unfolding write
  item_fits t (Write.Create raw doc) = item_new (at raw t.rows) t raw doc
  item_fits t (Write.Put raw doc expect) = item_put (at raw t.rows) t raw doc expect
  item_fits t (Write.Delete raw expect) = item_delete (at raw t.rows) t raw expect

  items_fit : (t : Table D) (writes : List (Write D)) → fits_items writes (items_of t writes) ≡ true
  unfolding items_of fits_items
  items_fit t [] = refl
  items_fit t (x ∷ writes) = rw (item_fits t x) (items_fit (write t x).0 writes)

-- reads, bulks and pings, which clients send
abbrev pub IsClients : {D Q : Type 0} → Request D Q → Type 0
IsClients Request.Ping = Unit {0}
IsClients (Request.Get name raws) = Unit {0}
IsClients (Request.Search name query) = Unit {0}
IsClients (Request.Bulk name writes) = Unit {0}
IsClients _ = ⊥

module _ {D Q : Type 0} (limit_of : Q → Option ℕ) (sel : Select D Q) (limits : Limits limit_of sel) where
  abbrev Fits : Request D Q → Reply D → Type 0
  Fits ask reply = fits_reply limit_of ask reply ≡ true

  -- a generation's replies to reads and bulks
  pub told_fits : (gs : Generations D) (ask : Request D Q) → IsClients ask → Fits ask (told_by sel gs ask)
  unfolding told_by
  told_fits gs Request.Ping i = refl
  told_fits gs (Request.Get name raws) i = by (of_alias name gs)
    where
      by : (o : Option (Generation D)) → Fits (Request.Get name raws) (get_in o name raws)
      by None = refl
      by (Some g) = found_are_of g.table.rows raws
  told_fits gs (Request.Search name query) i = by (of_alias name gs)
    where
      by : (o : Option (Generation D)) → Fits (Request.Search name query) (search_in sel o name query)
      by None = refl
      by (Some g) = limits query g.table.rows
  told_fits gs (Request.Bulk name writes) i = by (of_alias name gs)
    where
      bulk : (b : Bool) (g : Generation D) → Fits (Request.Bulk name writes) (bulk_reply b g writes)
      bulk true g = refl
      bulk false g = items_fit g.table writes

      by : (o : Option (Generation D)) → Fits (Request.Bulk name writes) (bulk_in_one o name writes)
      by None = refl
      by (Some g) = bulk g.blocked g
  told_fits gs Request.State i = absurd i
  told_fits gs (Request.Create n from) i = absurd i
  told_fits gs (Request.Block n) i = absurd i
  told_fits gs (Request.Clone n m) i = absurd i
  told_fits gs (Request.OpenPit n) i = absurd i
  told_fits gs (Request.ReadPit p q) i = absurd i
  told_fits gs (Request.ClosePit p) i = absurd i
  told_fits gs (Request.Aliases actions) i = absurd i

  create_fits : (name : Text) (source : Option Text) (st : Store D) (o : Option (Index D)) (a : Option Text) → Fits (Request.Create name source) (create_over o a st name source).1
  create_fits name source st (Some ix) a = refl
  create_fits name source st None (Some i) = refl
  create_fits name source st None None = refl

  block_fits : (name : Text) (st : Store D) (o : Option (Index D)) → Fits (Request.Block name) (block_over o st name).1
  block_fits name st None = refl
  block_fits name st (Some ix) = refl

  clone_fits : (source goal : Text) (st : Store D) (o : Option (Index D)) (a : Option Text) (from : Option (Index D)) → Fits (Request.Clone source goal) (clone_over o a from st source goal).1
  clone_fits source goal st (Some ix) a from = refl
  clone_fits source goal st None (Some i) from = refl
  clone_fits source goal st None None None = refl
  clone_fits source goal st None None (Some ix) = by ix.blocked
    where
      by : (b : Bool) → Fits (Request.Clone source goal) (copy_of b ix st source goal).1
      by true = refl
      by false = refl

  open_fits : (name : Text) (st : Store D) (o : Option (Index D)) → Fits (Request.OpenPit name) (open_over o st name).1
  open_fits name st None = refl
  open_fits name st (Some ix) = refl

  read_fits : (p : ℕ) (query : Q) (o : Option (Rows D)) → Fits (Request.ReadPit p query) (read_over sel o p query)
  read_fits p query None = refl
  read_fits p query (Some rows) = limits query rows

  close_fits : (p : ℕ) (st : Store D) (o : Option (Rows D)) → Fits (Request.ClosePit p) (close_over o st p).1
  close_fits p st None = refl
  close_fits p st (Some rows) = refl

  get_fits : (name : Text) (raws : List Text) (o : Option (Index D)) → Fits (Request.Get name raws) (get_over o name raws)
  get_fits name raws None = refl
  get_fits name raws (Some ix) = found_are_of ix.table.rows raws

  search_fits : (name : Text) (query : Q) (o : Option (Index D)) → Fits (Request.Search name query) (search_over sel o name query)
  search_fits name query None = refl
  search_fits name query (Some ix) = limits query ix.table.rows

  bulk_fits : (name index : Text) (writes : List (Write D)) (st : Store D) (o : Option (Index D)) → Fits (Request.Bulk name writes) (bulk_over o st name index writes).1
  bulk_fits name index writes st None = refl
  bulk_fits name index writes st (Some ix) = by ix.blocked
    where
      by : (b : Bool) → Fits (Request.Bulk name writes) (bulk_in b ix st index writes).1
      by true = refl
      by false = items_fit ix.table writes

  -- why an action can be refused
  abbrev ForAliases : Acted D → Type 0
  ForAliases (Now st) = Unit {0}
  ForAliases (Stuck why) = (actions : List Action) → Fits (Request.Aliases actions) (Reply.Refused why)

  remove_may : (st : Store D) (alias index : Text) (o : Option Text) → ForAliases (remove_over o st alias index)
  remove_may st alias index None = λ actions. refl
  remove_may st alias index (Some i) = by (same i index)
    where
      by : (b : Bool) → ForAliases (if b then Now (Rattle.race_model.specs.Stores.with_aliases st (Rattle.base_model.specs.Keyed.without alias st.aliases)) else Stuck (Rattle.race_model.specs.Stores.Refusal.AliasMissing alias index))
      by true = tt
      by false = λ actions. refl

  add_may : (st : Store D) (alias index : Text) (o named : Option (Index D)) (held : Option Text) → ForAliases (add_over o named held st alias index)
  add_may st alias index None named held = λ actions. refl
  add_may st alias index (Some ix) (Some iy) held = λ actions. refl
  add_may st alias index (Some ix) None None = tt
  add_may st alias index (Some ix) None (Some i) = by (same i index)
    where
      by : (b : Bool) → ForAliases (if b then Now st else Stuck (Rattle.race_model.specs.Stores.Refusal.AliasTaken alias i))
      by true = tt
      by false = λ actions. refl

  drop_may : (st : Store D) (index : Text) (o : Option (Index D)) → ForAliases (drop_over o st index)
  drop_may st index None = λ actions. refl
  drop_may st index (Some ix) = tt

  act_may : (st : Store D) (a : Action) → ForAliases (act st a)
  unfolding act
  act_may st (Action.RemoveMustExist alias index) = remove_may st alias index (at alias st.aliases)
  act_may st (Action.Add alias index) = add_may st alias index (at index st.indices) (at alias st.indices) (at alias st.aliases)
  act_may st (Action.RemoveIndex index) = drop_may st index (at index st.indices)

  all_may : (actions : List Action) (a : Acted D) → ForAliases a → ForAliases (act_all a actions)
  unfolding act_all
  all_may [] a k = k
  all_may (x ∷ actions) (Stuck why) k = k
  all_may (x ∷ actions) (Now st) k = all_may actions (act st x) (act_may st x)

  acted_fits : (actions : List Action) (st : Store D) (a : Acted D) → ForAliases a → Fits (Request.Aliases actions) (acted_answer st a).1
  acted_fits actions st (Now new) k = refl
  acted_fits actions st (Stuck why) k = k actions

  -- the store's reply to any request
  pub served_fits : (st : Store D) (ask : Request D Q) → IsSorted st.indices → IsSorted st.aliases → Fits ask (serve sel st ask).1
  unfolding serve
  served_fits st Request.Ping a b = refl
  served_fits st Request.State a b = rw (all_seen st.indices a) (names_rise st.aliases b)
  served_fits st (Request.Create name source) a b = create_fits name source st (at name st.indices) (at name st.aliases)
  served_fits st (Request.Block name) a b = block_fits name st (at name st.indices)
  served_fits st (Request.Clone source goal) a b = clone_fits source goal st (at goal st.indices) (at goal st.aliases) (at source st.indices)
  served_fits st (Request.OpenPit name) a b = open_fits name st (at (meant st name) st.indices)
  served_fits st (Request.ReadPit p query) a b = read_fits p query (pit_at p st.pits)
  served_fits st (Request.ClosePit p) a b = close_fits p st (pit_at p st.pits)
  served_fits st (Request.Get name raws) a b = get_fits name raws (at (meant st name) st.indices)
  served_fits st (Request.Search name query) a b = search_fits name query (at (meant st name) st.indices)
  served_fits st (Request.Bulk name writes) a b = bulk_fits name (meant st name) writes st (at (meant st name) st.indices)
  served_fits st (Request.Aliases actions) a b = acted_fits actions st (act_all (Now st) actions) (all_may actions (Now st) tt)

take_few : {D : Type 0} (n : ℕ) (rows : Rows D) → length (take n rows) ≤ n
take_few zero rows = omega arith
take_few (suc n) [] = omega arith
take_few (suc n) (r ∷ rows) = let k : length (take n rows) ≤ n = take_few n rows in omega arith

few_rows : {A : Type 0} (limit : Option ℕ) (rows : Rows (Doc A)) → within limit (length (limited limit rows)) ≡ true
few_rows None rows = refl
few_rows (Some n) rows = let k : length (take n rows) ≤ n = take_few n rows in grind (arith, nat_tests)

-- a query's rows are at most as many as it takes
pub query_limits : {A F : Type 0} (holds : Holds A F) → Limits (λ (q : Query F). q.limit) (select holds)
query_limits holds q rows = few_rows q.limit (drop q.skip (in_order q.sort q.descending (chosen holds q rows)))
