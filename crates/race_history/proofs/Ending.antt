-- Whoever is done has the fact of its version in the journal.
use Rattle.std.proofs.Common.{◌≡◌, ◌≢◌, ℕ, ◌⊎◌, List, [], ◌∷◌, ◌++◌, Option, Some, None, refl, sym, ◌∙◌, subst}
use mathlib.Core.Logic.◌⊎◌.{inl, inr}
use Rattle.base_model.specs.Keyed.{Text}
use Rattle.race_model.specs.Stores.{Request}
use Rattle.race_model.specs.Stores.Request.{Ping, Create, Block, Clone, OpenPit, ReadPit, ClosePit, Get, Search, Bulk, Aliases}
use Rattle.race_model.specs.Machines.{Settings}
use Rattle.race_model.specs.Generations.{Generation, Generations, Move, of_alias, left_by, install, move}
use Rattle.race_model.specs.Generations.Move.{Stay, Migrate, Install}
use Rattle.race_model.specs.History.{Fact, FoundSoFar, facts_of, found_after, facts_from}
use Rattle.race_model.specs.Worlds.{Race, Actor, Entry}
use Rattle.race_model.specs.Worlds.Actor.{Instance, Client}
use Rattle.race_model.specs.Journals.{Has}
use Rattle.race_tables.proofs.Keys.{same_is}
use Rattle.race_tables.proofs.Lists.{has_append_left, has_append_right, none_some}
use Rattle.race_model.specs.Premises.{RaceLaws}
use Rattle.race_model.specs.Runs.{MayMove, EntryIs, fact_of, IsRun}
use Rattle.race_history.specs.Generated.{HasFact}
use Rattle.race_history.proofs.Lining.{block_none, migrate_other, written_nones}

module _ {D Q C : Type 0} (race : Race D Q C) (cur : Text) (In : Settings D Q → Type 0) (Fresh : Settings D Q → Text → D → Type 0) (Sound : C → Type 0) (laws : RaceLaws race cur In Fresh Sound)
    (version_in : Text → Option Text) (v : Settings D Q) (i : In v) (ver : Text) (is_version : version_in v.target ≡ Some ver) where
  -- the move brings the version
  abbrev Brings : Generations D → Move D Q → Type 0
  Brings gs m = (of_alias v.version gs ≡ None) × (of_alias v.version (move gs m) ≢ None)

  abbrev Told : ℕ → List Fact → Type 0
  Told p fs = Has (Fact.Migrate p v.target ver) fs ⊎ Has (Fact.Install p v.target ver) fs

  left_none : (gs : Generations D) (ask : Request D Q) → of_alias v.version gs ≡ None → of_alias v.version (left_by gs ask) ≡ None
  unfolding left_by
  left_none gs (Bulk name ws) e = written_nones name ws gs v.version e
  left_none gs Ping e = e
  left_none gs Request.State e = e
  left_none gs (Create name made) e = e
  left_none gs (Block name) e = e
  left_none gs (Clone from goal) e = e
  left_none gs (OpenPit name) e = e
  left_none gs (ReadPit p query) e = e
  left_none gs (ClosePit p) e = e
  left_none gs (Get name raws) e = e
  left_none gs (Search name query) e = e
  left_none gs (Aliases actions) e = e

  migrates : (p : ℕ) (w : Settings D Q) → w ≡ v → Has (Fact.Migrate p v.target ver) (fact_of {Q = Q} version_in p (Migrate w))
  unfolding Has
  migrates p w e = rw (e, is_version) (inl refl)

  installs : (p : ℕ) (w : Settings D Q) → w ≡ v → Has (Fact.Install p v.target ver) (fact_of {Q = Q} version_in p (Install w))
  unfolding Has
  installs p w e = rw (e, is_version) (inl refl)

  -- a set with the same version is the same
  same_set : (w : Settings D Q) → In w → v.version ≡ w.version → w ≡ v
  same_set w j e = elim (laws.names.apart w v j i) [ inl z ↦ z | inr o ↦ absurd (o.0 (sym e)) ]

  instance_told : (p k : ℕ) (gs : Generations D) (m : Move D Q) → MayMove (race.settings k) gs m → Brings gs m → Told p (fact_of version_in p m)
  unfolding of_alias
  instance_told p k gs Stay may b = absurd (b.1 b.0)
  instance_told p k gs Move.Block may b = absurd (b.1 (block_none gs v.version b.0))
  instance_told p k gs (Migrate w) may b = elim (same_is v.version w.version) [
    | inl e ↦ inl (migrates p w (same_set w (subst In (sym may.0) (laws.runs k)) e.1))
    | inr x ↦ absurd (b.1 (migrate_other w gs v.version x.1 ∙ b.0))
  ]
  instance_told p k gs (Install w) may b = elim (same_is v.version w.version) [
    | inl e ↦ inr (installs p w (same_set w (subst In (sym may.0) (laws.runs k)) e.1))
    | inr x ↦ absurd (b.1 (subst (λ z. of_alias v.version (install w z) ≡ None) (sym may.1) (rw x.0 refl)))
  ]
  instance_told p k gs (Move.Ask ask) may b = absurd may

  entry_told : (p : ℕ) (gs : Generations D) (actor : Actor) (e : Entry D Q) (m : Move D Q) → EntryIs race gs actor e m → Brings gs m → Told p (fact_of version_in p m)
  entry_told p gs (Instance k) e m may b = instance_told p k gs m may b
  entry_told p gs (Client k) e m may b = absurd (b.1 (subst (λ z. of_alias v.version (move gs z) ≡ None) (sym may.0) (left_none gs e.request b.0)))

  pub run_told : (f : FoundSoFar) (gs last : Generations D) (j : List (Entry D Q)) → IsRun race cur version_in f gs j last → of_alias v.version gs ≡ None → of_alias v.version last ≢ None → HasFact v.target ver (facts_from cur version_in f j)
  unfolding IsRun facts_from
  run_told f gs last [] run none some = absurd (some (subst (λ z. of_alias v.version z ≡ None) run none))
  run_told f gs last (e ∷ j) run none some = by (of_alias v.version (move gs run.0)) refl (λ q. run_told (found_after cur f e.request e.reply) (move gs run.0) last j run.3 q some)
    where
      rest : List Fact
      rest = facts_from cur version_in (found_after cur f e.request e.reply) j

      here : List Fact
      here = facts_of cur version_in f e.request e.reply

      further : HasFact v.target ver rest → HasFact v.target ver (here ++ rest)
      further h = elim h.1 [ inl x ↦ (h.0, inl (has_append_right _ here rest x)) | inr x ↦ (h.0, inr (has_append_right _ here rest x)) ]

      by : (o : Option (Generation D)) → of_alias v.version (move gs run.0) ≡ o → (of_alias v.version (move gs run.0) ≡ None → HasFact v.target ver rest) → HasFact v.target ver (here ++ rest)
      by None q later = further (later q)
      by (Some g) q later =
          let told : Told f.place here = subst (Told f.place) (sym run.2) (entry_told f.place gs e.actor e run.0 run.1 (none, λ z. none_some g (of_alias v.version (move gs run.0)) z q)) in
          elim told [ inl h ↦ (f.place, inl (has_append_left _ here rest h)) | inr h ↦ (f.place, inr (has_append_left _ here rest h)) ]
