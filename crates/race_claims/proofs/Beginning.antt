-- What the first reply of a start tells.
use Rattle.std.proofs.Common.{◌≡◌, ◌≢◌, ◌⊎◌, Bool, true, false, Option, Some, None, refl, sym, ◌∙◌, ap, subst, if◌then◌else◌}
use mathlib.Core.Logic.◌⊎◌.{inl, inr}
use Rattle.base_model.specs.Keyed.{Text, at}
use Rattle.race_model.specs.Stores.{Index, Store, seen}
use Rattle.race_model.specs.Stores.Reply.{Seen}
use Rattle.race_model.specs.Machines.{Settings, State, is_on, unless_left, unless_legacy, by_index, by_aliases, from_state}
use Rattle.race_model.specs.Machines.Cause.{Leftover}
use Rattle.race_model.specs.Machines.End.{Fatal}
use Rattle.race_model.specs.Machines.Finish.{Stands}
use Rattle.race_model.specs.Machines.State.{CreateNewTarget, CheckUnknown, OutdatedOpen, Ended}
use Rattle.race_model.specs.Worlds.{Race}
use Rattle.race_model.specs.Premises.{NamesApart, RaceLaws}
use Rattle.race_tables.proofs.Keys.{same_refl}
use Rattle.race_tables.proofs.Lists.{none_some, some_same}
use Rattle.race_facts.proofs.Facts.{Installed, Current, StoreOk}
use Rattle.race_facts.proofs.Facts.Current.{Nowhere, On}
use Rattle.race_claims.specs.Shown.{OwnSource}
use Rattle.race_model.specs.Machines.{unless_left}
use Rattle.race_tables.proofs.Keys.{same_false}
use Rattle.race_tables.proofs.Requests.{shown_of, at_seen, at_flags}

module _ {D Q C : Type 0} (race : Race D Q C) (cur : Text) (In : Settings D Q → Type 0) (Fresh_docs : Settings D Q → Text → D → Type 0) (Empty : Type 0) (Sound : C → Type 0) (laws : RaceLaws race cur In Fresh_docs Sound) (v : Settings D Q) (is_in : In v) where
  abbrev names : NamesApart cur In
  names = laws.names

  abbrev Ok : Store D → Type 0
  Ok st = StoreOk cur In Fresh_docs Empty st

  -- the version of the current alias's index is installed
  pub installed_there : (st : Store D) → Ok st → at cur st.aliases ≡ Some v.target → Installed v st.aliases
  installed_there st a e = by a.aliases.current
    where
      by : Current cur In Fresh_docs Empty st.aliases → Installed v st.aliases
      by (Nowhere f x nowhere) = none_some v.target (at cur st.aliases) f e
      by (On u j f x) = elim (names.apart u v j is_in) [
        | inl s ↦ subst (λ z. Installed z st.aliases) s x
        | inr o ↦ absurd (o.1 (some_same u.target v.target (at cur st.aliases) f e))
      ]

  -- what the first reply tells
  pub init_is : (st : Store D) → Ok st → from_state v (Seen (seen st.indices) st.aliases) ≡ by_aliases v (at cur st.aliases) (at v.version st.aliases) (at v.temp (seen st.indices)) (at v.target (seen st.indices))
  init_is st a =
      subst (λ c. unless_legacy v (at c (seen st.indices)) (by_aliases v (at c st.aliases) (at v.version st.aliases) (at v.temp (seen st.indices)) (at v.target (seen st.indices))) ≡ by_aliases v (at cur st.aliases) (at v.version st.aliases) (at v.temp (seen st.indices)) (at v.target (seen st.indices))) (sym (names.current v is_in))
      (subst (λ o. unless_legacy v o (by_aliases v (at cur st.aliases) (at v.version st.aliases) (at v.temp (seen st.indices)) (at v.target (seen st.indices))) ≡ by_aliases v (at cur st.aliases) (at v.version st.aliases) (at v.temp (seen st.indices)) (at v.target (seen st.indices))) (sym (at_flags cur st.indices a.no_cur_index)) refl)

  pub fresh_first : (st : Store D) → Ok st → at cur st.aliases ≡ None → from_state v (Seen (seen st.indices) st.aliases) ≡ CreateNewTarget
  fresh_first st a e = init_is st a ∙ ap (λ o. by_aliases v o (at v.version st.aliases) (at v.temp (seen st.indices)) (at v.target (seen st.indices))) e

  pub standing_first : (st : Store D) → Ok st → at cur st.aliases ≡ Some v.target → from_state v (Seen (seen st.indices) st.aliases) ≡ OutdatedOpen (Stands v.target)
  standing_first st a e =
      let x : Installed v st.aliases = installed_there st a e in
      let on : is_on v.target (at v.version st.aliases) ≡ true = rw x (same_refl v.target) in
      init_is st a ∙ ap (λ o. by_aliases v o (at v.version st.aliases) (at v.temp (seen st.indices)) (at v.target (seen st.indices))) e ∙ ap (λ b. by_index v v.target b (at v.temp (seen st.indices)) (at v.target (seen st.indices))) on

  pub passes : (st : Store D) (s n : Text) → (n ≡ v.temp) ⊎ (n ≡ v.target) → (o : Option (Index D)) → at n st.indices ≡ o → OwnSource v st s → (next : State D) → unless_left n (shown_of o) s next ≡ next
  passes st s n kind None e own next = refl
  passes st s n kind (Some ix) e own next = ap (λ o. if is_on s o then next else Ended (Fatal (Leftover n o s))) (own n ix kind e) ∙ rw (same_refl s) refl

  pub below_first : (st : Store D) (s : Text) → Ok st → at cur st.aliases ≡ Some s → s ≢ v.target → v.is_later s ≡ false → v.is_same s ≡ false → OwnSource v st s → from_state v (Seen (seen st.indices) st.aliases) ≡ CheckUnknown s
  below_first st s a e off later other own =
      let off_it : is_on s (at v.version st.aliases) ≡ false = elim (a.aliases.versions v is_in) [ inl not ↦ rw not refl | inr x ↦ rw (x, same_false s v.target off) refl ] in
      let rest : by_index v s false (at v.temp (seen st.indices)) (at v.target (seen st.indices)) ≡ CheckUnknown s = rw (later, other, at_seen v.temp st.indices, at_seen v.target st.indices)
      (passes st s v.temp (inl refl) (at v.temp st.indices) refl own (unless_left v.target (shown_of (at v.target st.indices)) s (CheckUnknown s)) ∙ passes st s v.target (inr refl) (at v.target st.indices) refl own (CheckUnknown s)) in
      init_is st a ∙ ap (λ o. by_aliases v o (at v.version st.aliases) (at v.temp (seen st.indices)) (at v.target (seen st.indices))) e ∙ ap (λ b. by_index v s b (at v.temp (seen st.indices)) (at v.target (seen st.indices))) off_it ∙ rest

  -- an index below has not the version's own name
  pub not_same : (st : Store D) (s : Text) → Ok st → at cur st.aliases ≡ Some s → s ≢ v.target → v.is_same s ≡ false
  not_same st s a e off = by (v.is_same s) refl
    where
      by : (b : Bool) → v.is_same s ≡ b → v.is_same s ≡ false
      by false q = q
      by true q = absurd (here a.aliases.current)
        where
          here : Current cur In Fresh_docs Empty st.aliases → ⊥
          here (Nowhere f x nowhere) = none_some s (at cur st.aliases) f e
          here (On u j f x) =
              let is : u.target ≡ s = some_same u.target s (at cur st.aliases) f e in
              off (sym is ∙ sym (ap (λ (z : Settings D Q). z.target) (laws.order.is_own v u is_in j (subst (λ n. v.is_same n ≡ true) (sym is) q))))
