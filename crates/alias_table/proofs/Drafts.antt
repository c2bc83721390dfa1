-- Names without some of them, and where actions end.
use Rattle.std.proofs.Common.{◌≡◌, ℕ, List, [], ◌∷◌, ◌++◌, Bool, true, false, refl, if◌then◌else◌, ap, sym, ◌∙◌, Option, Some, None, IfSome}
use Rattle.std.specs.Prelude.{not}
use Rattle.race_model.specs.Stores.{Store, Action, Refusal, Acted, act, act_all}
use Rattle.race_model.specs.Stores.Acted.{Now, Stuck}
use Rattle.race_tables.proofs.Requests.{act_stop}
use Rattle.base_model.specs.Keyed.{Text, same, without}
use Rattle.alias_table.specs.Plans.{bare_entry, bare_indices, names_without, names_after}

pub bare_without : (k : Text) (names : List Text) → without k (bare_indices names) ≡ bare_indices (names_without k names)
unfolding without
bare_without k [] = refl
bare_without k (n ∷ names) = by (same k n) (bare_without k names)
  where
    by : (t : Bool) → without k (bare_indices names) ≡ bare_indices (names_without k names) →
        (if t then without k (bare_indices names) else bare_entry n ∷ without k (bare_indices names)) ≡ bare_indices (if not t then n ∷ names_without k names else names_without k names)
    by true e = e
    by false e = ap (λ es. bare_entry n ∷ es) e

pub names_after_join : (names first more : List Text) → names_after names (first ++ more) ≡ names_after (names_after names first) more
unfolding names_after
names_after_join names [] more = refl
names_after_join names (r ∷ first) more = names_after_join (names_without r names) first more

-- a refused action is the end of the actions
pub stuck_at : (o : Option Refusal) (st : Store ℕ) (a : Action) (rest : List Action) (all : Acted ℕ) → IfSome o (λ why. act st a ≡ Stuck why) → act_all (Now st) (a ∷ rest) ≡ all → IfSome o (λ why. all ≡ Stuck why)
stuck_at None st a rest all h e = tt
stuck_at (Some why) st a rest all h e = sym e ∙ act_stop st a why rest h
