-- What a request does to a store, in parts.
use Rattle.std.proofs.Common.{◌≡◌, ◌≢◌, ℕ, List, [], ◌∷◌, Bool, true, false, Option, Some, None, refl, ◌∙◌, ap, if◌then◌else◌, arith}
use Rattle.std.proofs.lemmas.Bool.Decides.{nat_tests}
use Rattle.base_model.specs.Keyed.{Text, Keyed, at, put, without, same}
use Rattle.race_model.specs.Stores.{Item, write, written, dropped, expected, new_over, put_over, delete_over, Cell, Rows, Table, Index, Store, Write, Action, Refusal, write_all, pit_at, meant, index_of, with_aliases, act, act_all, found, found_one, IndexSeen, seen}
use Rattle.race_model.specs.Stores.Write.{Put, Delete}
use Rattle.race_model.specs.Stores.Item.{Written, Conflict}
use Rattle.race_model.specs.Stores.Refusal.{AliasMissing}
use Rattle.race_model.specs.Stores.Acted.{Now, Stuck}
use Rattle.race_model.specs.Stores.Action.{RemoveMustExist, Add, RemoveIndex}
use Rattle.race_model.specs.Sorted.{Each}
use Rattle.race_model.specs.Premises.{FreshWrite, FreshWrites, AllFreshFound, FreshFound}
use Rattle.race_tables.proofs.Keys.{same_refl, same_false, NoneOn, none_on_kept}
use Rattle.race_tables.proofs.Tables.{each_put, each_without, each_at}

-- actions one by one
pub act_step : {D : Type 0} (st st' : Store D) (a : Action) (actions : List Action) → act st a ≡ Now st' → act_all (Now st) (a ∷ actions) ≡ act_all (Now st') actions
unfolding act_all
act_step st st' a actions e = ap (λ x. act_all x actions) e

pub act_stop : {D : Type 0} (st : Store D) (a : Action) (why : Refusal) (actions : List Action) → act st a ≡ Stuck why → act_all (Now st) (a ∷ actions) ≡ Stuck why
unfolding act_all
act_stop st a why [] e = e
act_stop st a why (b ∷ actions) e = ap (λ x. act_all x (b ∷ actions)) e

remove_now : {D : Type 0} (st : Store D) (alias index : Text) → at alias st.aliases ≡ Some index → act st (RemoveMustExist alias index) ≡ Now (with_aliases st (without alias st.aliases))
unfolding act
remove_now st alias index e = rw (e, same_refl index) refl

remove_stuck : {D : Type 0} (st : Store D) (alias index other : Text) → at alias st.aliases ≡ Some other → other ≢ index → act st (RemoveMustExist alias index) ≡ Stuck (AliasMissing alias index)
unfolding act
remove_stuck st alias index other e n = rw (e, same_false other index n) refl

pub add_now : {D : Type 0} (st : Store D) (alias index : Text) (ix : Index D) → at index st.indices ≡ Some ix → at alias st.indices ≡ None → at alias st.aliases ≡ None → act st (Add alias index) ≡ Now (with_aliases st (put alias index st.aliases))
unfolding act
add_now st alias index ix e f g = rw (e, f, g) refl

pub drop_now : {D : Type 0} (st : Store D) (index : Text) (ix : Index D) → at index st.indices ≡ Some ix → NoneOn index st.aliases → act st (RemoveIndex index) ≡ Now (record { indices = without index st.indices; aliases = st.aliases; opened = st.opened; pits = st.pits })
unfolding act
drop_now st index ix e n = rw (e, none_on_kept index st.aliases n) refl

-- a name that is no alias means itself
pub meant_itself : {D : Type 0} (st : Store D) (n : Text) → at n st.aliases ≡ None → meant st n ≡ n
unfolding meant
meant_itself {D = D} st n e = by (at n st.indices)
  where
    by : (o : Option (Index D)) → index_of o st n ≡ n
    by (Some ix) = refl
    by None = rw e refl

pub meant_alias : {D : Type 0} (st : Store D) (n i : Text) → at n st.indices ≡ None → at n st.aliases ≡ Some i → meant st n ≡ i
unfolding meant
meant_alias st n i e f = rw (e, f) refl

pub fresh_write : {D : Type 0} (Fresh : Text → D → Type 0) (t : Table D) (w : Write D) → Each Fresh t.rows → FreshWrite Fresh w → Each Fresh (write t w).0.rows
unfolding write
fresh_write {D = D} Fresh t (Write.Create raw doc) a f = by (at raw t.rows)
  where
    by : (c : Option (Cell D)) → Each Fresh (new_over c t raw doc).0.rows
    by None = each_put Fresh raw (record { seq = t.next; doc = doc }) t.rows f a
    by (Some c) = a
fresh_write {D = D} Fresh t (Put raw doc expect) a f = by (at raw t.rows) expect
  where
    by : (c : Option (Cell D)) (n : Option ℕ) → Each Fresh (put_over c t raw doc n).0.rows
    by None None = each_put Fresh raw (record { seq = t.next; doc = doc }) t.rows f a
    by None (Some n) = a
    by (Some c) n = if_so (expected n c.seq)
      where
        if_so : (b : Bool) → Each Fresh (if◌then◌else◌ {A = Table D × Item} b (written t raw doc, Written t.next) (t, Conflict (Some c.seq))).0.rows
        if_so true = each_put Fresh raw (record { seq = t.next; doc = doc }) t.rows f a
        if_so false = a
fresh_write {D = D} Fresh t (Delete raw expect) a f = by (at raw t.rows)
  where
    by : (c : Option (Cell D)) → Each Fresh (delete_over c t raw expect).0.rows
    by None = a
    by (Some c) = if_so (expected expect c.seq)
      where
        if_so : (b : Bool) → Each Fresh (if◌then◌else◌ {A = Table D × Item} b (dropped t raw, Written t.next) (t, Conflict (Some c.seq))).0.rows
        if_so true = each_without Fresh raw t.rows a
        if_so false = a

pub fresh_write_all : {D : Type 0} (Fresh : Text → D → Type 0) (t : Table D) (ws : List (Write D)) → Each Fresh t.rows → FreshWrites Fresh ws → Each Fresh (write_all t ws).rows
unfolding write_all FreshWrites
fresh_write_all Fresh t [] a f = a
fresh_write_all Fresh t (w ∷ ws) a f = fresh_write_all Fresh (write t w).0 ws (fresh_write Fresh t w a f.0) f.1

pub fresh_found : {D : Type 0} (Fresh : Text → D → Type 0) (rows : Rows D) (raws : List Text) → Each Fresh rows → AllFreshFound Fresh (found rows raws)
unfolding AllFreshFound
fresh_found Fresh rows [] a = tt
fresh_found {D = D} Fresh rows (raw ∷ raws) a = (by (at raw rows) refl, fresh_found Fresh rows raws a)
  where
    by : (c : Option (Cell D)) → at raw rows ≡ c → FreshFound Fresh (found_one c raw)
    by None e = tt
    by (Some c) e = each_at Fresh raw c rows a e

-- what State shows of an index
abbrev pub shown_of : {D : Type 0} → Option (Index D) → Option IndexSeen
shown_of None = None
shown_of (Some ix) = Some (record { blocked = ix.blocked; source = ix.source })

pub at_seen : {D : Type 0} (q : Text) (ixs : Keyed (Index D)) → at q (seen ixs) ≡ shown_of (at q ixs)
unfolding at
at_seen q [] = refl
at_seen {D = D} q (x ∷ ixs) = by (same q x.0) (at_seen q ixs)
  where
    by : (t : Bool) → at q (seen ixs) ≡ shown_of (at q ixs) → (if t then Some (record { blocked = x.1.blocked; source = x.1.source }) else at q (seen ixs)) ≡ shown_of (if t then Some x.1 else at q ixs)
    by true e = refl
    by false e = e

pub at_flags : {D : Type 0} (q : Text) (ixs : Keyed (Index D)) → at q ixs ≡ None → at q (seen ixs) ≡ None
at_flags q ixs e = at_seen q ixs ∙ ap shown_of e

pub pit_here : {D : Type 0} (n : ℕ) (rows : Rows D) (pits : List (ℕ × Rows D)) → pit_at n ((n, rows) ∷ pits) ≡ Some rows
unfolding pit_at
pit_here n rows pits = grind (arith, nat_tests)
