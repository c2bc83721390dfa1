-- The opening store shows the opening's generations.
use Rattle.std.proofs.Common.{◌≡◌, ◌≢◌, List, [], ◌∷◌, false, Some, None, refl, sym, ◌∙◌, subst}
use mathlib.Core.Logic.◌⊎◌.{inl, inr}
use Rattle.base_model.specs.Keyed.{Text, at}
use Rattle.race_model.specs.Stores.{Table, Store, Index}
use Rattle.race_model.specs.Machines.{Settings}
use Rattle.race_model.specs.Worlds.{Race}
use Rattle.race_model.specs.Journals.{Has}
use Rattle.race_tables.proofs.Keys.{same_false, same_refl, at_put_same, at_put_other}
use Rattle.race_tables.proofs.Lists.{apart, none_some}
use Rattle.race_model.specs.Generations.{of_alias}
use Rattle.race_model.specs.History.{is_listed}
use Rattle.race_model.specs.Openings.{Opening, opening_store}
use Rattle.race_model.specs.Openings.Opening.{NoGeneration, OneGeneration}
use Rattle.race_model.specs.Premises.{NamesApart, RaceLaws, IsOpening}
use Rattle.race_model.specs.Runs.{last_generation}
use Rattle.race_facts.proofs.Facts.{Installed}
use Rattle.race_model.specs.Openings.{opening_generations, found_at_opening}
use Rattle.race_facts.proofs.Opening.{at_one, at_its}
use Rattle.race_history.proofs.Histories.{Shows, LastOn, FoundOk}
use Rattle.race_history.proofs.Histories.LastOn.{No_last, The_last}
use Rattle.race_history.proofs.Lining.{Once}
use Rattle.race_history.specs.Generated.{shown_of}

module _ {D Q C : Type 0} (race : Race D Q C) (cur : Text) (sets : List (Settings D Q)) (Fresh : Settings D Q → Text → D → Type 0) (Sound : C → Type 0) (laws : RaceLaws race cur (λ v. Has v sets) Fresh Sound) where
  abbrev In : Settings D Q → Type 0
  In v = Has v sets

  abbrev names : NamesApart cur In
  names = laws.names

  -- the openings
  module _ (v : Settings D Q) (i : In v) (table : Table D) where
    abbrev opening : Store D
    opening = opening_store cur (OneGeneration v table)

    other_alias : (n : Text) → n ≢ cur → n ≢ v.version → at n opening.aliases ≡ None
    other_alias n c x = at_put_other n cur v.target ((v.version, v.target) ∷ []) c ∙ at_one n v.version v.target x

    is_installed : Installed v opening.aliases
    is_installed = at_put_other v.version cur v.target ((v.version, v.target) ∷ []) (apart (names.cur_ver v i)) ∙ at_its v.version v.target

    is_on : at cur opening.aliases ≡ Some v.target
    is_on = at_put_same cur v.target ((v.version, v.target) ∷ [])

    only_one : (w : Settings D Q) → In w → Installed w opening.aliases → w ≡ v
    only_one w j x = elim (names.apart w v j i) [ inl s ↦ s | inr o ↦ none_some w.target (at w.version opening.aliases) (other_alias w.version (apart (names.cur_ver w j)) o.0) x ]

    pub opens_shown : Shows cur In (opening_generations (OneGeneration v table)) opening
    unfolding of_alias last_generation Once
    opens_shown = record {
      each = λ w j. elim (names.apart w v j i) [
        | inl s ↦ subst (λ z. of_alias z.version (opening_generations (OneGeneration v table)) ≡ Rattle.race_history.specs.Generated.shown_of z opening) (sym s) (rw (same_refl v.version, is_installed, at_its {V = Index D} v.target (record { blocked = false; source = None; table = table })) refl)
        | inr o ↦ rw (same_false w.version v.version o.0, other_alias w.version (apart (names.cur_ver w j)) o.0) refl
      ];
      last = The_last v i (record { last = _; is_last = refl; under = refl; of = refl }) is_on;
      once = (refl, tt);
    }

    pub opens_found : FoundOk In (found_at_opening (OneGeneration v table)) (opening_generations (OneGeneration v table))
    unfolding of_alias last_generation is_listed
    opens_found = record {
      on = refl;
      listed = λ w j. elim (names.apart w v j i) [
        | inl s ↦ subst (λ z. false ≡ Rattle.race_history.proofs.Histories.flag (of_alias z.version (opening_generations (OneGeneration v table)))) (sym s) (rw (same_refl v.version) refl)
        | inr o ↦ rw (same_false w.version v.version o.0) refl
      ];
    }

  pub empty_shown : Shows cur In [] (opening_store {Q = Q} cur NoGeneration)
  unfolding at of_alias Once
  empty_shown = record { each = λ w j. refl; last = No_last refl refl; once = tt }

  pub empty_found : FoundOk In (found_at_opening {D = D} {Q = Q} NoGeneration) []
  unfolding of_alias last_generation is_listed
  empty_found = record { on = refl; listed = λ w j. refl }

  pub well_shown : (o : Opening D Q) → IsOpening sets Fresh o → Shows cur In (opening_generations o) (opening_store cur o)
  well_shown NoGeneration w = empty_shown
  well_shown (OneGeneration v table) w = opens_shown v w.0 table

  pub well_found : (o : Opening D Q) → IsOpening sets Fresh o → FoundOk In (found_at_opening o) (opening_generations o)
  well_found NoGeneration w = empty_found
  well_found (OneGeneration v table) w = opens_found v w.0 table
