-- A point in time keeps its rows.
use Rattle.std.proofs.Common.{◌≡◌, ◌≢◌, ◌<◌, ℕ, ◌+◌, Bool, true, false, List, [], ◌∷◌, Option, Some, None, refl, sym, ◌∙◌, ap, if◌then◌else◌, ◌==◌, arith}
use Rattle.std.proofs.lemmas.Bool.Decides.{nat_tests}
use Rattle.base_model.specs.Keyed.{Text, same, at, without}
use Rattle.race_model.specs.Stores.{Rows, Index, Store, Write, Action, Acted, Request, Select, serve, pit_at, close, meant, create_over, block_over, clone_over, copy_of, open_over, close_over, bulk_over, bulk_in, with_aliases, remove_over, add_over, drop_over, act, act_all, acted_answer}
use Rattle.race_model.specs.Stores.Acted.{Now, Stuck}
use Rattle.race_model.specs.Stores.Request.{ReadPit, ClosePit, OpenPit, Get, Search, Bulk, Aliases, Ping, Block, Clone, Create}
use Rattle.race_model.specs.Stores.Reply.{Pit, Selected}
use Rattle.race_model.specs.Stores.Refusal.{AliasMissing, AliasTaken}
use Rattle.race_model.specs.Stores.Action.{RemoveMustExist, Add, RemoveIndex}

module _ {D : Type 0} where
  abbrev Same : Store D → Store D → Type 0
  Same st st' = st'.pits ≡ st.pits

  create_same : (st : Store D) (o : Option (Index D)) (alias : Option Text) (n : Text) (source : Option Text) → Same st (create_over o alias st n source).0
  create_same st (Some ix) alias n source = refl
  create_same st None (Some i) n source = refl
  create_same st None None n source = refl

  block_same : (st : Store D) (o : Option (Index D)) (n : Text) → Same st (block_over o st n).0
  block_same st None n = refl
  block_same st (Some ix) n = refl

  clone_same : (st : Store D) (o from : Option (Index D)) (alias : Option Text) (source goal : Text) → Same st (clone_over o alias from st source goal).0
  clone_same st (Some ix) from alias source goal = refl
  clone_same st None from (Some i) source goal = refl
  clone_same st None None None source goal = refl
  clone_same st None (Some ix) None source goal = by ix.blocked
    where
      by : (b : Bool) → Same st (copy_of b ix st source goal).0
      by true = refl
      by false = refl

  bulk_same : (st : Store D) (o : Option (Index D)) (name index : Text) (ws : List (Write D)) → Same st (bulk_over o st name index ws).0
  bulk_same st None name index ws = refl
  bulk_same st (Some ix) name index ws = by ix.blocked
    where
      by : (b : Bool) → Same st (bulk_in b ix st index ws).0
      by true = refl
      by false = refl

  -- what an action leaves has the same points in time
  abbrev SameActed : Store D → Acted D → Type 0
  SameActed st (Now st') = Same st st'
  SameActed st (Stuck why) = Unit {0}

  act_same : (st : Store D) (a : Action) → SameActed st (act st a)
  unfolding act
  act_same st (RemoveMustExist alias index) = by (at alias st.aliases)
    where
      by : (o : Option Text) → SameActed st (remove_over o st alias index)
      by None = tt
      by (Some i) = inner (same i index)
        where
          inner : (b : Bool) → SameActed st (if b then Now (with_aliases st (without alias st.aliases)) else Stuck (AliasMissing alias index))
          inner true = refl
          inner false = tt
  act_same st (Add alias index) = by (at index st.indices) (at alias st.indices) (at alias st.aliases)
    where
      by : (o named : Option (Index D)) (held : Option Text) → SameActed st (add_over o named held st alias index)
      by None named held = tt
      by (Some ix) (Some iy) held = tt
      by (Some ix) None None = refl
      by (Some ix) None (Some i) = inner (same i index)
        where
          inner : (b : Bool) → SameActed st (if b then Now st else Stuck (AliasTaken alias i))
          inner true = refl
          inner false = tt
  act_same st (RemoveIndex index) = by (at index st.indices)
    where
      by : (o : Option (Index D)) → SameActed st (drop_over o st index)
      by None = tt
      by (Some ix) = refl

  acts_same : (first : Store D) (acted : Acted D) (actions : List Action) → SameActed first acted → SameActed first (act_all acted actions)
  unfolding act_all
  acts_same first acted [] s = s
  acts_same first (Stuck why) (a ∷ actions) s = tt
  acts_same first (Now st) (a ∷ actions) s = acts_same first (act st a) actions (next (act st a) (act_same st a))
    where
      next : (x : Acted D) → SameActed st x → SameActed first x
      next (Now new) e = e ∙ s
      next (Stuck why) e = tt

  answer_same : (st : Store D) (acted : Acted D) → SameActed st acted → Same st (acted_answer st acted).0
  answer_same st (Now new) s = s
  answer_same st (Stuck why) s = refl

  -- another point in time is closed
  close_other : (p q : ℕ) (pits : List (ℕ × Rows D)) → p ≢ q → pit_at p (close q pits) ≡ pit_at p pits
  unfolding pit_at close
  close_other p q [] n = refl
  close_other p q (e ∷ pits) n = by (q == e.0) (p == e.0) refl refl (close_other p q pits n)
    where
      by : (b c : Bool) → (q == e.0) ≡ b → (p == e.0) ≡ c → pit_at p (close q pits) ≡ pit_at p pits → pit_at p (if b then close q pits else e ∷ close q pits) ≡ (if c then Some e.1 else pit_at p pits)
      by true true f g h = absurd (n (let x : q ≡ e.0 = grind (arith, nat_tests) in let y : p ≡ e.0 = grind (arith, nat_tests) in y ∙ sym x))
      by true false f g h = h
      by false true f g h = rw g refl
      by false false f g h = rw g h

  close_kept : (st : Store D) (p q : ℕ) (o : Option (Rows D)) → p ≢ q → pit_at p (close_over o st q).0.pits ≡ pit_at p st.pits
  close_kept st p q None n = refl
  close_kept st p q (Some rows) n = close_other p q st.pits n

  open_kept : (st : Store D) (p : ℕ) (o : Option (Index D)) (n : Text) → p < st.opened → pit_at p (open_over o st n).0.pits ≡ pit_at p st.pits
  unfolding pit_at
  open_kept st p None n lt = refl
  open_kept st p (Some ix) n lt = let other : (p == st.opened) ≡ false = grind (arith, nat_tests) in rw other refl

module _ {D Q : Type 0} (select : Select D Q) where
  not_closed : (p q : ℕ) → ◌≢◌ {A = Request D Q} (ClosePit q) (ClosePit p) → p ≢ q
  not_closed p q n e = n (ap (λ z. ClosePit z) (sym e))

  pub kept : (st : Store D) (ask : Request D Q) (p : ℕ) → p < st.opened → ask ≢ ClosePit p → pit_at p (serve select st ask).0.pits ≡ pit_at p st.pits
  unfolding serve
  kept st Ping p lt n = refl
  kept st Request.State p lt n = refl
  kept st (Create name source) p lt n = ap (pit_at p) (create_same st (at name st.indices) (at name st.aliases) name source)
  kept st (Block name) p lt n = ap (pit_at p) (block_same st (at name st.indices) name)
  kept st (Clone source goal) p lt n = ap (pit_at p) (clone_same st (at goal st.indices) (at source st.indices) (at goal st.aliases) source goal)
  kept st (OpenPit name) p lt n = open_kept st p (at (meant st name) st.indices) name lt
  kept st (ReadPit q query) p lt n = refl
  kept st (ClosePit q) p lt n = close_kept st p q (pit_at q st.pits) (not_closed p q n)
  kept st (Get name raws) p lt n = refl
  kept st (Search name query) p lt n = refl
  kept st (Bulk name writes) p lt n = ap (pit_at p) (bulk_same st (at (meant st name) st.indices) name (meant st name) writes)
  kept st (Aliases actions) p lt n = ap (pit_at p) (answer_same st (act_all (Now st) actions) (acts_same st (Now st) actions refl))

  pub opens : (st : Store D) (name : Text) (ix : Index D) → at (meant st name) st.indices ≡ Some ix → (serve select st (OpenPit name)).1 ≡ Pit st.opened
  unfolding serve
  opens st name ix e = rw e refl

  pub takes : (st : Store D) (name : Text) (ix : Index D) → at (meant st name) st.indices ≡ Some ix → pit_at st.opened (serve select st (OpenPit name)).0.pits ≡ Some ix.table.rows
  unfolding serve pit_at
  takes st name ix e = let level : (st.opened == st.opened) ≡ true = grind (arith, nat_tests) in rw (e, level) refl

  pub rises : (st : Store D) (name : Text) (ix : Index D) → at (meant st name) st.indices ≡ Some ix → (serve select st (OpenPit name)).0.opened ≡ st.opened + 1
  unfolding serve
  rises st name ix e = rw e refl

  pub reads : (st : Store D) (p : ℕ) (query : Q) (rows : Rows D) → pit_at p st.pits ≡ Some rows → serve select st (ReadPit p query) ≡ (st, Selected (select.total query rows) (select.rows query rows))
  unfolding serve
  reads st p query rows e = rw e refl
