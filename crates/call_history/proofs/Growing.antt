-- Tables and generations as they grow: a number stays with its row.
use Rattle.std.proofs.Common.{◌≡◌, ◌⊎◌, ℕ, ◌+◌, ◌<◌, ◌≤◌, Bool, true, false, Option, Some, None, List, [], ◌∷◌, length, refl, sym, ◌∙◌, ap, subst, arith, if◌then◌else◌}
use Rattle.std.proofs.lemmas.Bool.Decides.{nat_tests}
use mathlib.Core.Logic.◌⊎◌.{inl, inr}
use Rattle.base_model.specs.Keyed.{Text, Keyed, same, at}
use Rattle.race_model.specs.Stores.{Cell, Rows, Table, empty_table, Write, Item, Request, write, write_all, written, dropped, expected, new_over, put_over, delete_over}
use Rattle.race_model.specs.Stores.Write.{Put, Delete}
use Rattle.race_model.specs.Machines.{Settings}
use Rattle.query_model.specs.Queries.{Query}
use Rattle.call_history.specs.Plans.{Path, Reaches}
use Rattle.race_model.specs.Migrated.{outs, collected, cells, migrated}
use Rattle.race_model.specs.Generations.{Generation, Generations, of_alias, with_table, written_in, left_by, Move, block_last, new_generation, migrate, install, move}
use Rattle.race_model.specs.Generations.Move.{Stay, Migrate, Install}
use Rattle.race_tables.proofs.Keys.{at_put, at_without}
use Rattle.document_model.specs.Documents.{Doc}
use Rattle.call_laws.specs.Meanings.{Numbered}
use Rattle.call_laws.proofs.Items.{SameRow}

-- each row of the later table is one of the earlier, or has a number that the earlier didn't give yet
pub record Since {D : Type 0} (t u : Table D) : Type 0 where
  pub next : t.next ≤ u.next
  pub rows : (raw : Text) (c : Cell D) → at raw u.rows ≡ Some c → (t.next ≤ c.seq) ⊎ (at raw t.rows ≡ Some c)

pub since_self : {D : Type 0} (t : Table D) → Since t t
since_self t = record { next = omega arith; rows = λ raw c e. inr e }

pub since_more : {D : Type 0} (t u v : Table D) → Since t u → Since u v → Since t v
since_more t u v a b = record {
  next = let x : t.next ≤ u.next = a.next in let y : u.next ≤ v.next = b.next in omega arith;
  rows = λ raw c e. elim (b.rows raw c e) [
    | inl n ↦ let x : t.next ≤ u.next = a.next in inl (omega arith)
    | inr f ↦ a.rows raw c f
  ];
}

-- what a write leaves grows, and is numbered
pub record Grew {D : Type 0} (t u : Table D) : Type 0 where
  pub since : Since t u
  pub numbered : Numbered t → Numbered u

grew_self : {D : Type 0} (t : Table D) → Grew t t
grew_self t = record { since = since_self t; numbered = λ n. n }

grew_if : {D : Type 0} (t : Table D) (b : Bool) (x y : Table D × Item) → Grew t x.0 → Grew t y.0 → Grew t (if b then x else y).0
grew_if t true x y p q = p
grew_if t false x y p q = q

put_row : {D : Type 0} (t : Table D) (b : Bool) (new c : Cell D) (o : Option (Cell D)) → new.seq ≡ t.next → (if b then Some new else o) ≡ Some c → ((c.seq ≡ t.next) ⊎ (o ≡ Some c))
put_row t true new c o n e = let is : new ≡ c = cc in inl (ap (λ x. x.seq) (sym is) ∙ n)
put_row t false new c o n e = inr e

without_row : {D : Type 0} (b : Bool) (c : Cell D) (o : Option (Cell D)) → (if b then None else o) ≡ Some c → o ≡ Some c
without_row true c o e = absurd (cc)
without_row false c o e = e

written_row : {D : Type 0} (t : Table D) (raw : Text) (doc : D) (other : Text) (c : Cell D) → at other (written t raw doc).rows ≡ Some c → ((c.seq ≡ t.next) ⊎ (at other t.rows ≡ Some c))
written_row t raw doc other c e =
    put_row t (same other raw) (record { seq = t.next; doc = doc }) c (at other t.rows) refl (sym (at_put other raw (record { seq = t.next; doc = doc }) t.rows) ∙ e)

dropped_row : {D : Type 0} (t : Table D) (raw : Text) (other : Text) (c : Cell D) → at other (dropped t raw).rows ≡ Some c → at other t.rows ≡ Some c
dropped_row t raw other c e = without_row (same other raw) c (at other t.rows) (sym (at_without other raw t.rows) ∙ e)

grew_written : {D : Type 0} (t : Table D) (raw : Text) (doc : D) → Grew t (written t raw doc)
grew_written t raw doc = record {
  since = record {
    next = omega arith;
    rows = λ other c e. elim (written_row t raw doc other c e) [ inl n ↦ inl (omega arith) | inr f ↦ inr f ];
  };
  numbered = λ numbered other c e. elim (written_row t raw doc other c e) [ inl n ↦ omega arith | inr f ↦ let x : c.seq < t.next = numbered other c f in omega arith ];
}

grew_dropped : {D : Type 0} (t : Table D) (raw : Text) → Grew t (dropped t raw)
grew_dropped t raw = record {
  since = record { next = omega arith; rows = λ other c e. inr (dropped_row t raw other c e) };
  numbered = λ numbered other c e. let x : c.seq < t.next = numbered other c (dropped_row t raw other c e) in omega arith;
}

grew_new : {D : Type 0} (o : Option (Cell D)) (t : Table D) (raw : Text) (doc : D) → Grew t (new_over o t raw doc).0
grew_new None t raw doc = grew_written t raw doc
grew_new (Some c) t raw doc = grew_self t

grew_put : {D : Type 0} (o : Option (Cell D)) (t : Table D) (raw : Text) (doc : D) (expect : Option ℕ) → Grew t (put_over o t raw doc expect).0
grew_put None t raw doc None = grew_written t raw doc
grew_put None t raw doc (Some n) = grew_self t
grew_put (Some c) t raw doc expect = grew_if t (expected expect c.seq) (written t raw doc, Item.Written t.next) (t, Item.Conflict (Some c.seq)) (grew_written t raw doc) (grew_self t)

grew_delete : {D : Type 0} (o : Option (Cell D)) (t : Table D) (raw : Text) (expect : Option ℕ) → Grew t (delete_over o t raw expect).0
grew_delete None t raw expect = grew_self t
grew_delete (Some c) t raw expect = grew_if t (expected expect c.seq) (dropped t raw, Item.Written t.next) (t, Item.Conflict (Some c.seq)) (grew_dropped t raw) (grew_self t)

grew_write : {D : Type 0} (t : Table D) (x : Write D) → Grew t (write t x).0
unfolding write
grew_write t (Write.Create raw doc) = grew_new (at raw t.rows) t raw doc
grew_write t (Put raw doc expect) = grew_put (at raw t.rows) t raw doc expect
grew_write t (Delete raw expect) = grew_delete (at raw t.rows) t raw expect

pub grew_all : {D : Type 0} (writes : List (Write D)) (t : Table D) → Grew t (write_all t writes)
unfolding write_all
grew_all [] t = grew_self t
grew_all (x ∷ writes) t =
    let a = grew_write t x in
    let b = grew_all writes (write t x).0 in
    record { since = since_more t (write t x).0 (write_all (write t x).0 writes) a.since b.since; numbered = λ n. b.numbered (a.numbered n) }

-- a number that both have stands for one row
pub since_same : {A : Type 0} (t u : Table (Doc A)) → Numbered t → Since t u → (raw : Text) → SameRow (at raw t.rows) (at raw u.rows)
since_same t u n s raw = by (at raw t.rows) (at raw u.rows) refl refl
  where
    by : (a b : Option (Cell (Doc _))) → at raw t.rows ≡ a → at raw u.rows ≡ b → SameRow a b
    by None None e f = λ k. refl
    by None (Some y) e f = λ k. absurd (cc)
    by (Some x) None e f = λ k. absurd (cc)
    by (Some x) (Some y) e f = λ k.
        let below : x.seq < t.next = n raw x e in
        elim (s.rows raw y f) [
          | inl above ↦ let one : x.seq ≡ y.seq = grind (arith, nat_tests) in absurd (omega arith)
          | inr is ↦ sym e ∙ is
        ]

-- all rows of cells from n are numbered below their end
cells_below : {D : Type 0} (n : ℕ) (es : Keyed D) (raw : Text) (c : Cell D) → at raw (cells n es) ≡ Some c → c.seq < n + length es
unfolding cells at
cells_below n [] raw c e = absurd (cc)
cells_below n (x ∷ es) raw c e = by (same raw x.0) e (λ f. cells_below (n + 1) es raw c f)
  where
    by : (b : Bool) → (if b then Some (record { seq = n; doc = x.1 }) else at raw (cells (n + 1) es)) ≡ Some c → (at raw (cells (n + 1) es) ≡ Some c → c.seq < n + 1 + length es) → c.seq < n + length (x ∷ es)
    by true f h = let is : record { seq = n; doc = x.1 } ≡ c = cc in let k : n ≡ c.seq = ap (λ z. z.seq) is in omega arith
    by false f h = let k : c.seq < n + 1 + length es = h f in omega arith

pub migrated_numbered : {D Q : Type 0} (s : Settings D Q) (rows : Rows D) → Numbered (migrated s rows)
migrated_numbered s rows raw c e = let k : c.seq < 0 + length (collected (outs s rows)) = cells_below 0 (collected (outs s rows)) raw c e in omega arith

-- the tables of all generations are numbered
pub record AllNumbered {D : Type 0} (gs : Generations D) : Type 0 where
  pub each : (name : Text) (g : Generation D) → of_alias name gs ≡ Some g → Numbered g.table

-- each generation stays, and its table grows
pub record Grows {D : Type 0} (gs later : Generations D) : Type 0 where
  pub stays : (name : Text) (g : Generation D) → of_alias name gs ≡ Some g → (h : Generation D) × (of_alias name later ≡ Some h) × Since g.table h.table
  pub numbered : AllNumbered gs → AllNumbered later

pub grows_self : {D : Type 0} (gs : Generations D) → Grows gs gs
grows_self gs = record { stays = λ name g e. (g, e, since_self g.table); numbered = λ n. n }

pub grows_more : {D : Type 0} (gs mid later : Generations D) → Grows gs mid → Grows mid later → Grows gs later
grows_more gs mid later a b = record {
  stays = λ name g e. let x = a.stays name g e in let y = b.stays name x.0 x.1 in (y.0, y.1, since_more g.table x.0.table y.0.table x.2 y.2);
  numbered = λ n. b.numbered (a.numbered n);
}

-- a bulk in the generation of one alias
grown_one : {D : Type 0} (writes : List (Write D)) (b : Bool) (g : Generation D) → Grew g.table (with_table b g writes).table
grown_one writes true g = grew_self g.table
grown_one writes false g = grew_all writes g.table

-- both are missing, or the second grew from the first
abbrev Matches : {D : Type 0} → Option (Generation D) → Option (Generation D) → Type 0
Matches None None = Unit {0}
Matches (Some g) (Some h) = Grew g.table h.table
Matches _ _ = ⊥

matches_self : {D : Type 0} (o : Option (Generation D)) → Matches o o
matches_self None = tt
matches_self (Some g) = grew_self g.table

same_alias : {D : Type 0} (writes : List (Write D)) (b : Bool) (g : Generation D) → (with_table b g writes).alias ≡ g.alias
same_alias writes true g = refl
same_alias writes false g = refl

written_matches : {D : Type 0} (alias : Text) (writes : List (Write D)) (gs : Generations D) (name : Text) → Matches (of_alias name gs) (of_alias name (written_in alias writes gs))
unfolding of_alias written_in
written_matches alias writes [] name = tt
written_matches alias writes (h ∷ gs) name = by (same alias h.alias) (written_matches alias writes gs name)
  where
    here : (b : Bool) → Matches (if b then Some h else of_alias name gs) (if b then Some (with_table h.blocked h writes) else of_alias name gs)
    here true = grown_one writes h.blocked h
    here false = matches_self (of_alias name gs)

    there : Matches (of_alias name gs) (of_alias name (written_in alias writes gs)) → (b : Bool) → Matches (if b then Some h else of_alias name gs) (if b then Some h else of_alias name (written_in alias writes gs))
    there i true = grew_self h.table
    there i false = i

    by : (a : Bool) → Matches (of_alias name gs) (of_alias name (written_in alias writes gs)) → Matches (of_alias name (h ∷ gs)) (of_alias name (if a then with_table h.blocked h writes ∷ gs else h ∷ written_in alias writes gs))
    by true i = rw (same_alias writes h.blocked h) (here (same name h.alias))
    by false i = there i (same name h.alias)

grows_matching : {D : Type 0} (gs later : Generations D) → ((name : Text) → Matches (of_alias name gs) (of_alias name later)) → Grows gs later
grows_matching gs later m = record {
  stays = λ name g e. forth name g e (of_alias name later) refl;
  numbered = λ n. record { each = λ name h e. back n name h e (of_alias name gs) refl };
}
  where
    forth : (name : Text) (g : Generation _) → of_alias name gs ≡ Some g → (o : Option (Generation _)) → of_alias name later ≡ o → (h : Generation _) × (of_alias name later ≡ Some h) × Since g.table h.table
    forth name g e None f = absurd (subst (λ x. Matches x None) e (subst (Matches (of_alias name gs)) f (m name)))
    forth name g e (Some h) f = (h, f, (subst (λ x. Matches x (Some h)) e (subst (Matches (of_alias name gs)) f (m name))).since)

    back : AllNumbered gs → (name : Text) (h : Generation _) → of_alias name later ≡ Some h → (o : Option (Generation _)) → of_alias name gs ≡ o → Numbered h.table
    back n name h e None f = absurd (subst (λ x. Matches x (Some h)) f (subst (Matches (of_alias name gs)) e (m name)))
    back n name h e (Some g) f = (subst (λ x. Matches x (Some h)) f (subst (Matches (of_alias name gs)) e (m name))).numbered (n.each name g f)

grows_written : {D : Type 0} (alias : Text) (writes : List (Write D)) (gs : Generations D) → Grows gs (written_in alias writes gs)
grows_written alias writes gs = grows_matching gs (written_in alias writes gs) (written_matches alias writes gs)

grows_asked : {D Q : Type 0} (gs : Generations D) (ask : Request D Q) → Grows gs (left_by gs ask)
unfolding left_by
grows_asked gs Request.Ping = grows_self gs
grows_asked gs Request.State = grows_self gs
grows_asked gs (Request.Create n from) = grows_self gs
grows_asked gs (Request.Block n) = grows_self gs
grows_asked gs (Request.Clone n m) = grows_self gs
grows_asked gs (Request.OpenPit n) = grows_self gs
grows_asked gs (Request.ReadPit p q) = grows_self gs
grows_asked gs (Request.ClosePit p) = grows_self gs
grows_asked gs (Request.Get n raws) = grows_self gs
grows_asked gs (Request.Search n q) = grows_self gs
grows_asked gs (Request.Bulk n writes) = grows_written n writes gs
grows_asked gs (Request.Aliases actions) = grows_self gs

block_matches : {D : Type 0} (gs : Generations D) (name : Text) → Matches (of_alias name gs) (of_alias name (block_last gs))
unfolding of_alias block_last
block_matches [] name = tt
block_matches (g ∷ []) name = by (same name g.alias)
  where
    by : (b : Bool) → Matches (if b then Some g else None) (if b then Some (record { alias = g.alias; index = g.index; blocked = true; table = g.table }) else None)
    by true = grew_self g.table
    by false = tt
block_matches (g ∷ h ∷ gs) name = by (same name g.alias) (block_matches (h ∷ gs) name)
  where
    by : (b : Bool) → Matches (of_alias name (h ∷ gs)) (of_alias name (block_last (h ∷ gs))) → Matches (if b then Some g else of_alias name (h ∷ gs)) (if b then Some g else of_alias name (block_last (h ∷ gs)))
    by true k = grew_self g.table
    by false k = k

grows_blocked : {D : Type 0} (gs : Generations D) → Grows gs (block_last gs)
grows_blocked gs = grows_matching gs (block_last gs) (block_matches gs)

-- a migration: what was there stays, and the new table is numbered
module _ {D Q : Type 0} (s : Settings D Q) where
  pub migrate_stays : (gs : Generations D) (name : Text) (g : Generation D) → of_alias name gs ≡ Some g → of_alias name (migrate s gs) ≡ Some g
  unfolding of_alias migrate
  migrate_stays [] name g e = absurd (cc)
  migrate_stays (x ∷ []) name g e = by (same name x.alias) _ e
    where
      by : (b : Bool) (o : Option (Generation D)) → (if b then Some x else None) ≡ Some g → (if b then Some x else o) ≡ Some g
      by true o f = f
      by false o f = absurd (cc)
  migrate_stays (x ∷ y ∷ gs) name g e = by (same name x.alias) (migrate_stays (y ∷ gs) name g) e
    where
      by : (b : Bool) → (of_alias name (y ∷ gs) ≡ Some g → of_alias name (migrate s (y ∷ gs)) ≡ Some g) → (if b then Some x else of_alias name (y ∷ gs)) ≡ Some g → (if b then Some x else of_alias name (migrate s (y ∷ gs))) ≡ Some g
      by true k f = f
      by false k f = k f

  migrate_brings : (gs : Generations D) (name : Text) (h : Generation D) → of_alias name (migrate s gs) ≡ Some h → (of_alias name gs ≡ Some h) ⊎ Numbered h.table
  unfolding of_alias migrate
  migrate_brings [] name h e = inl e
  migrate_brings (x ∷ []) name h e = by (same name x.alias) (same name s.version) e
    where
      new : Generation D
      new = new_generation s (migrated s x.table.rows)

      by : (b v : Bool) → (if b then Some x else if v then Some new else None) ≡ Some h → ((if b then Some x else None) ≡ Some h) ⊎ Numbered h.table
      by true v f = inl f
      by false true f = let is : new ≡ h = cc in inr (subst (λ (z : Generation D). Numbered z.table) is (migrated_numbered s x.table.rows))
      by false false f = absurd (cc)
  migrate_brings (x ∷ y ∷ gs) name h e = by (same name x.alias) (migrate_brings (y ∷ gs) name h) e
    where
      by : (b : Bool) → (of_alias name (migrate s (y ∷ gs)) ≡ Some h → (of_alias name (y ∷ gs) ≡ Some h) ⊎ Numbered h.table)
          → (if b then Some x else of_alias name (migrate s (y ∷ gs))) ≡ Some h → ((if b then Some x else of_alias name (y ∷ gs)) ≡ Some h) ⊎ Numbered h.table
      by true k f = inl f
      by false k f = k f

  grows_migrated : (gs : Generations D) → Grows gs (migrate s gs)
  grows_migrated gs = record {
    stays = λ name g e. (g, migrate_stays gs name g e, since_self g.table);
    numbered = λ n. record { each = λ name h e. elim (migrate_brings gs name h e) [ inl f ↦ n.each name h f | inr k ↦ k ] };
  }

  grows_installed : (gs : Generations D) → Grows gs (install s gs)
  unfolding of_alias at
  grows_installed [] = record {
    stays = λ name g e. absurd (cc);
    numbered = λ n. record { each = λ name h e. by (same name s.version) h e };
  }
    where
      by : (b : Bool) (h : Generation D) → (if b then Some (new_generation s empty_table) else None) ≡ Some h → Numbered h.table
      by true h f = let is : new_generation s empty_table ≡ h = cc in subst (λ (z : Generation D). Numbered z.table) is (λ raw c e. absurd (cc))
      by false h f = absurd (cc)
  grows_installed (g ∷ gs) = grows_self (g ∷ gs)

-- whatever moves may be made
grows_move : {D Q : Type 0} (gs : Generations D) (m : Move D Q) → Grows gs (move gs m)
grows_move gs Stay = grows_self gs
grows_move gs Move.Block = grows_blocked gs
grows_move gs (Migrate v) = grows_migrated v gs
grows_move gs (Install v) = grows_installed v gs
grows_move gs (Move.Ask ask) = grows_asked gs ask

grows_path : {A F : Type 0} (settings : ℕ → Settings (Doc A) (Query F)) (ms : List (Move (Doc A) (Query F))) (gs later : Generations (Doc A)) → Path settings gs ms later → Grows gs later
unfolding Path
grows_path settings [] gs later p = subst (Grows gs) p (grows_self gs)
grows_path settings (m ∷ ms) gs later p = grows_more gs (move gs m) later (grows_move gs m) (grows_path settings ms (move gs m) later p.1)

pub grows_reached : {A F : Type 0} (settings : ℕ → Settings (Doc A) (Query F)) (gs later : Generations (Doc A)) → Reaches settings gs later → Grows gs later
grows_reached settings gs later r = grows_path settings r.0 gs later r.1
