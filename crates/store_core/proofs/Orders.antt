-- What a request leaves of the order of a store and of its numbers.
use Rattle.std.proofs.Common.{◌≡◌, ℕ, ◌+◌, ◌≤◌, Bool, true, false, List, [], ◌∷◌, length, Option, Some, None, refl, if◌then◌else◌, arith}
use Rattle.std.specs.Prelude.{⊤}
use Rattle.base_model.specs.Keyed.{Text, same, at, without}
use Rattle.race_model.specs.Stores.{Rows, Index, Store, Select, Write, Action, Acted, Request, serve, with_index, with_aliases, create_over, block_over, clone_over, copy_of, open_over, close_over, bulk_over, bulk_in, meant, pit_at, act, act_all, acted_answer, remove_over, add_over, drop_over}
use Rattle.race_model.specs.Stores.Acted.{Now, Stuck}
use Rattle.race_model.specs.Stores.Refusal.{AliasMissing, AliasTaken}
use Rattle.race_tables.proofs.Tables.{sorted_put, sorted_without}
use Rattle.store_core.specs.Standing.{IsOrderly, IsWithin, AllWithin}
use Rattle.store_core.proofs.Names.{index_is_no_alias, named_put, named_without, named_add, named_drop, sorted_drop, some_of}
use Rattle.store_core.proofs.Numbers.{within_more, within_writes, within_renumbered, within_empty, all_more, all_put, all_without, all_at}

-- what a request leaves of a store whose tables' next numbers are, under a premise, at most n
pub record Fine {D : Type 0} (Premise : Type 0) (n opened : ℕ) (now : Store D) : Type 0 where
  pub orderly : IsOrderly now
  pub tables : Premise → AllWithin (n + 65536) now.indices
  pub pits : now.opened ≤ opened + 1

-- the same where an action was done
abbrev FineActed : {D : Type 0} → Type 0 → ℕ → ℕ → Acted D → Type 0
FineActed P n opened (Now st) = Fine P n opened st
FineActed P n opened (Stuck why) = ⊤

-- a bulk has at most 65,536 writes
abbrev pub IsShort : {D Q : Type 0} → Request D Q → Type 0
IsShort (Request.Bulk index writes) = length writes ≤ 65536
IsShort _ = ⊤

module _ {D : Type 0} (P : Type 0) (st : Store D) (n : ℕ) (order : IsOrderly st) (room : P → AllWithin n st.indices) where
  same_fine : Fine P n st.opened st
  same_fine = record { orderly = order; tables = λ (p : P). all_more n (n + 65536) st.indices (omega arith) (room p); pits = omega arith }

  put_fine : (name : Text) (ix : Index D) → at name st.aliases ≡ None → (P → IsWithin (n + 65536) ix.table) → Fine P n st.opened (with_index st name ix)
  put_fine name ix e w = record {
    orderly = record {
      indices = sorted_put name ix st.indices order.indices;
      aliases = order.aliases;
      named = named_put name ix st.indices st.aliases e order.named;
    };
    tables = λ (p : P). all_put (n + 65536) name ix st.indices (w p) (all_more n (n + 65536) st.indices (omega arith) (room p));
    pits = omega arith;
  }

  put_there : (name : Text) (old ix : Index D) → at name st.indices ≡ Some old → (P → IsWithin (n + 65536) ix.table) → Fine P n st.opened (with_index st name ix)
  put_there name old ix e w = put_fine name ix (index_is_no_alias name old st.indices st.aliases e order.named) w

  held_within : (name : Text) (ix : Index D) → at name st.indices ≡ Some ix → P → IsWithin (n + 65536) ix.table
  held_within name ix e p = within_more n (n + 65536) ix.table (omega arith) (all_at n name ix st.indices e (room p))

  create_fine : (name : Text) (source : Option Text) (o : Option (Index D)) (a : Option Text) → at name st.aliases ≡ a → Fine P n st.opened (create_over o a st name source).0
  create_fine name source (Some ix) a e = same_fine
  create_fine name source None (Some i) e = same_fine
  create_fine name source None None e = put_fine name _ e (λ p. within_empty (n + 65536))

  block_fine : (name : Text) (o : Option (Index D)) → at name st.indices ≡ o → Fine P n st.opened (block_over o st name).0
  block_fine name None e = same_fine
  block_fine name (Some ix) e = put_there name ix _ e (held_within name ix e)

  copy_fine : (source goal : Text) (ix : Index D) (b : Bool) → at source st.indices ≡ Some ix → at goal st.aliases ≡ None → Fine P n st.opened (copy_of b ix st source goal).0
  copy_fine source goal ix false e f = same_fine
  copy_fine source goal ix true e f = put_fine goal _ f (λ p. within_renumbered (n + 65536) ix.table (held_within source ix e p))

  clone_fine : (source goal : Text) (o : Option (Index D)) (a : Option Text) (from : Option (Index D)) → at goal st.aliases ≡ a → at source st.indices ≡ from → Fine P n st.opened (clone_over o a from st source goal).0
  clone_fine source goal (Some ix) a from e f = same_fine
  clone_fine source goal None (Some i) from e f = same_fine
  clone_fine source goal None None None e f = same_fine
  clone_fine source goal None None (Some ix) e f = copy_fine source goal ix ix.blocked f e

  open_fine : (name : Text) (o : Option (Index D)) → Fine P n st.opened (open_over o st name).0
  open_fine name None = same_fine
  open_fine name (Some ix) = record {
    orderly = record { indices = order.indices; aliases = order.aliases; named = order.named };
    tables = λ (p : P). all_more n (n + 65536) st.indices (omega arith) (room p);
    pits = omega arith;
  }

  close_fine : (p : ℕ) (o : Option (Rows D)) → Fine P n st.opened (close_over o st p).0
  close_fine p None = same_fine
  close_fine p (Some rows) = record {
    orderly = record { indices = order.indices; aliases = order.aliases; named = order.named };
    tables = λ (p : P). all_more n (n + 65536) st.indices (omega arith) (room p);
    pits = omega arith;
  }

  bulk_fine : (name index : Text) (ws : List (Write D)) (o : Option (Index D)) → at index st.indices ≡ o → (P → length ws ≤ 65536) → Fine P n st.opened (bulk_over o st name index ws).0
  bulk_fine name index ws None e l = same_fine
  bulk_fine name index ws (Some ix) e l = by ix.blocked
    where
      by : (b : Bool) → Fine P n st.opened (bulk_in b ix st index ws).0
      by true = same_fine
      by false = put_there index ix _ e (λ p. let k = l p in within_more (n + length ws) (n + 65536) _ (omega arith) (within_writes n ix.table ws (all_at n index ix st.indices e (room p))))

module _ {D : Type 0} (P : Type 0) (n opened : ℕ) where
  remove_fine : (now : Store D) (alias index : Text) (o : Option Text) → Fine P n opened now → FineActed P n opened (remove_over o now alias index)
  remove_fine now alias index None h = tt
  remove_fine now alias index (Some i) h = by (same i index)
    where
      by : (s : Bool) → FineActed P n opened (if s then Now (with_aliases now (without alias now.aliases)) else Stuck (AliasMissing alias index))
      by false = tt
      by true = record {
        orderly = record {
          indices = h.orderly.indices;
          aliases = sorted_without alias now.aliases h.orderly.aliases;
          named = named_without alias now.indices now.aliases h.orderly.named;
        };
        tables = h.tables;
        pits = h.pits;
      }

  add_fine : (now : Store D) (alias index : Text) (o : Option (Index D)) (p : Option (Index D)) (a : Option Text) → at index now.indices ≡ o → at alias now.indices ≡ p → Fine P n opened now → FineActed P n opened (add_over o p a now alias index)
  add_fine now alias index None p a e f h = tt
  add_fine now alias index (Some ix) (Some iy) a e f h = tt
  add_fine now alias index (Some ix) None None e f h = record {
    orderly = record {
      indices = h.orderly.indices;
      aliases = sorted_put alias index now.aliases h.orderly.aliases;
      named = named_add alias index now.indices now.aliases f (some_of _ ix e) h.orderly.named;
    };
    tables = h.tables;
    pits = h.pits;
  }
  add_fine now alias index (Some ix) None (Some i) e f h = by (same i index)
    where
      by : (s : Bool) → FineActed P n opened (if s then Now now else Stuck (AliasTaken alias i))
      by true = h
      by false = tt

  drop_fine : (now : Store D) (index : Text) (o : Option (Index D)) → Fine P n opened now → FineActed P n opened (drop_over o now index)
  drop_fine now index None h = tt
  drop_fine now index (Some ix) h = record {
    orderly = record {
      indices = sorted_without index now.indices h.orderly.indices;
      aliases = sorted_drop index now.aliases h.orderly.aliases;
      named = named_drop index now.indices now.aliases h.orderly.named;
    };
    tables = λ (p : P). all_without (n + 65536) index now.indices (h.tables p);
    pits = h.pits;
  }

  act_fine : (now : Store D) (a : Action) → Fine P n opened now → FineActed P n opened (act now a)
  unfolding act
  act_fine now (Action.RemoveMustExist alias index) h = remove_fine now alias index (at alias now.aliases) h
  act_fine now (Action.Add alias index) h = add_fine now alias index (at index now.indices) (at alias now.indices) (at alias now.aliases) refl refl h
  act_fine now (Action.RemoveIndex index) h = drop_fine now index (at index now.indices) h

  all_fine : (actions : List Action) (a : Acted D) → FineActed P n opened a → FineActed P n opened (act_all a actions)
  unfolding act_all
  all_fine [] a h = h
  all_fine (x ∷ actions) (Stuck why) h = h
  all_fine (x ∷ actions) (Now now) h = all_fine actions (act now x) (act_fine now x h)

  acted_fine : (st : Store D) (a : Acted D) → Fine P n opened st → FineActed P n opened a → Fine P n opened (acted_answer st a).0
  acted_fine st (Now now) h k = k
  acted_fine st (Stuck why) h k = h

pub serve_fine : {D Q : Type 0} (sel : Select D Q) (st : Store D) (n : ℕ) (ask : Request D Q) → IsOrderly st → Fine (AllWithin n st.indices × IsShort ask) n st.opened (serve sel st ask).0
unfolding serve
serve_fine sel st n Request.Ping o = same_fine _ st n o (λ p. p.0)
serve_fine sel st n Request.State o = same_fine _ st n o (λ p. p.0)
serve_fine sel st n (Request.Create name source) o = create_fine _ st n o (λ p. p.0) name source (at name st.indices) (at name st.aliases) refl
serve_fine sel st n (Request.Block name) o = block_fine _ st n o (λ p. p.0) name (at name st.indices) refl
serve_fine sel st n (Request.Clone source goal) o = clone_fine _ st n o (λ p. p.0) source goal (at goal st.indices) (at goal st.aliases) (at source st.indices) refl refl
serve_fine sel st n (Request.OpenPit name) o = open_fine _ st n o (λ p. p.0) name (at (meant st name) st.indices)
serve_fine sel st n (Request.ReadPit p query) o = same_fine _ st n o (λ p. p.0)
serve_fine sel st n (Request.ClosePit p) o = close_fine _ st n o (λ p. p.0) p (pit_at p st.pits)
serve_fine sel st n (Request.Get name raws) o = same_fine _ st n o (λ p. p.0)
serve_fine sel st n (Request.Search name query) o = same_fine _ st n o (λ p. p.0)
serve_fine sel st n (Request.Bulk name writes) o = bulk_fine _ st n o (λ p. p.0) name (meant st name) writes (at (meant st name) st.indices) refl (λ p. p.1)
serve_fine sel st n (Request.Aliases actions) o = acted_fine _ n st.opened st (act_all (Now st) actions) (same_fine _ st n o (λ p. p.0)) (all_fine _ n st.opened actions (Now st) (same_fine _ st n o (λ p. p.0)))
