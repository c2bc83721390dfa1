-- Alias documents stay in their generations, whatever moves are made.
use Rattle.std.proofs.Common.{◌≡◌, ℕ, Bool, true, false, Some, None, List, [], ◌∷◌, refl, sym, ◌∙◌, subst, if◌then◌else◌}
use mathlib.Core.Logic.◌⊎◌.{inl, inr}
use Rattle.base_model.specs.Keyed.{Text, same}
use Rattle.race_model.specs.Stores.{Write, Request, write_all}
use Rattle.race_model.specs.Machines.{Settings}
use Rattle.race_model.specs.Generations.{Generation, Generations, of_alias, with_table, written_in, left_by, Move, block_last, install, move}
use Rattle.race_model.specs.Generations.Move.{Stay, Migrate, Install}
use Rattle.race_tables.proofs.Keys.{same_is}
use Rattle.race_history.proofs.Lining.{written_here, written_other}
use Rattle.document_model.specs.Documents.{Doc}
use Rattle.query_model.specs.Queries.{Query}
use Rattle.call_laws.specs.Meanings.{KeepsAliases, Keeps}
use Rattle.call_history.specs.Plans.{MayBeMade, Path, Reaches}
use Rattle.call_history.proofs.Growing.{migrate_stays}

-- the generation is there, with its alias documents
record Stays {A : Type 0} (later : Generations (Doc A)) (name : Text) (g : Generation (Doc A)) : Type 0 where
  now : Generation (Doc A)
  is : of_alias name later ≡ Some now
  keeps : KeepsAliases g.table now.table

stays_self : {A : Type 0} (gs : Generations (Doc A)) (name : Text) (g : Generation (Doc A)) → of_alias name gs ≡ Some g → Stays gs name g
stays_self gs name g e = record { now = g; is = e; keeps = λ raw c f a. f }

-- a block changes no table
block_stays : {A : Type 0} → (gs : Generations (Doc A)) (name : Text) (g : Generation (Doc A)) → of_alias name gs ≡ Some g → Stays (block_last gs) name g
unfolding of_alias block_last
block_stays {A = A} [] name g e = absurd (cc)
block_stays {A = A} (x ∷ []) name g e = by (same name x.alias) refl e
  where
    new : Generation (Doc A)
    new = record { alias = x.alias; index = x.index; blocked = true; table = x.table }

    by : (b : Bool) → same name x.alias ≡ b → (if b then Some x else None) ≡ Some g → Stays (new ∷ []) name g
    by true s f = let is : x ≡ g = cc in record { now = new; is = rw s refl; keeps = subst (λ z. KeepsAliases z.table x.table) is (λ raw c k a. k) }
    by false s f = absurd (cc)
block_stays {A = A} (x ∷ y ∷ gs) name g e = by (same name x.alias) refl (block_stays (y ∷ gs) name g) e
  where
    by : (b : Bool) → same name x.alias ≡ b → (of_alias name (y ∷ gs) ≡ Some g → Stays (block_last (y ∷ gs)) name g) → (if b then Some x else of_alias name (y ∷ gs)) ≡ Some g → Stays (x ∷ block_last (y ∷ gs)) name g
    by true s k f = record { now = g; is = rw s f; keeps = λ raw c h a. h }
    by false s k f = let z = k f in record { now = z.now; is = rw s z.is; keeps = z.keeps }

module _ {A F : Type 0} (settings : ℕ → Settings (Doc A) (Query F)) where
  -- a bulk that keeps them
  bulk_stays : (n : Text) (writes : List (Write (Doc A))) (gs : Generations (Doc A)) (name : Text) (g : Generation (Doc A)) → Keeps {F = F} gs (Request.Bulk n writes) → of_alias name gs ≡ Some g → Stays (written_in n writes gs) name g
  bulk_stays n writes gs name g k e = elim (same_is name n) [
    | inl s ↦ (let f : of_alias n gs ≡ Some g = subst (λ x. of_alias x gs ≡ Some g) s.1 e in
        record { now = with_table g.blocked g writes; is = subst (λ x. of_alias x (written_in n writes gs) ≡ Some (with_table g.blocked g writes)) (sym s.1) (written_here n writes gs g f); keeps = by g.blocked (k g f) })
    | inr s ↦ record { now = g; is = written_other n writes gs name s.1 ∙ e; keeps = λ raw c h a. h }
  ]
    where
      by : (b : Bool) → KeepsAliases g.table (write_all g.table writes) → KeepsAliases g.table (with_table b g writes).table
      by true h = λ raw c x a. x
      by false h = h

  asked_stays : (gs : Generations (Doc A)) (ask : Request (Doc A) (Query F)) (name : Text) (g : Generation (Doc A)) → Keeps gs ask → of_alias name gs ≡ Some g → Stays (left_by gs ask) name g
  unfolding left_by
  asked_stays gs Request.Ping name g k e = stays_self gs name g e
  asked_stays gs Request.State name g k e = stays_self gs name g e
  asked_stays gs (Request.Create n from) name g k e = stays_self gs name g e
  asked_stays gs (Request.Block n) name g k e = stays_self gs name g e
  asked_stays gs (Request.Clone n m) name g k e = stays_self gs name g e
  asked_stays gs (Request.OpenPit n) name g k e = stays_self gs name g e
  asked_stays gs (Request.ReadPit p q) name g k e = stays_self gs name g e
  asked_stays gs (Request.ClosePit p) name g k e = stays_self gs name g e
  asked_stays gs (Request.Get n raws) name g k e = stays_self gs name g e
  asked_stays gs (Request.Search n q) name g k e = stays_self gs name g e
  asked_stays gs (Request.Bulk n writes) name g k e = bulk_stays n writes gs name g k e
  asked_stays gs (Request.Aliases actions) name g k e = stays_self gs name g e

  install_stays : (v : Settings (Doc A) (Query F)) (gs : Generations (Doc A)) (name : Text) (g : Generation (Doc A)) → of_alias name gs ≡ Some g → Stays (install v gs) name g
  unfolding of_alias
  install_stays v [] name g e = absurd (cc)
  install_stays v (x ∷ gs) name g e = stays_self (x ∷ gs) name g e

  move_stays : (gs : Generations (Doc A)) (m : Move (Doc A) (Query F)) (name : Text) (g : Generation (Doc A)) → MayBeMade settings gs m → of_alias name gs ≡ Some g → Stays (move gs m) name g
  move_stays gs Stay name g may e = stays_self gs name g e
  move_stays gs Move.Block name g may e = block_stays gs name g e
  move_stays gs (Migrate v) name g may e = record { now = g; is = migrate_stays v gs name g e; keeps = λ raw c f a. f }
  move_stays gs (Install v) name g may e = install_stays v gs name g e
  move_stays gs (Move.Ask ask) name g may e = asked_stays gs ask name g may e

  path_stays : (ms : List (Move (Doc A) (Query F))) (gs later : Generations (Doc A)) (name : Text) (g : Generation (Doc A)) → Path settings gs ms later → of_alias name gs ≡ Some g → Stays later name g
  unfolding Path
  path_stays [] gs later name g p e = subst (λ x. Stays x name g) p (stays_self gs name g e)
  path_stays (m ∷ ms) gs later name g p e =
      let a : Stays (move gs m) name g = move_stays gs m name g p.0 e in
      let b : Stays later name a.now = path_stays ms (move gs m) later name a.now p.1 a.is in
      record { now = b.now; is = b.is; keeps = λ raw c f x. b.keeps raw c (a.keeps raw c f x) x }

  pub aliases_stay : (gs later : Generations (Doc A)) (name : Text) (g h : Generation (Doc A)) → Reaches settings gs later → of_alias name gs ≡ Some g → of_alias name later ≡ Some h → KeepsAliases g.table h.table
  aliases_stay gs later name g h r e f =
      let s : Stays later name g = path_stays r.0 gs later name g r.1 e in
      let both : Some s.now ≡ Some h = sym s.is ∙ f in
      let one : s.now ≡ h = cc in
      subst (λ z. KeepsAliases g.table z.table) one s.keeps
