-- The laws, as lemmas.
use Rattle.std.proofs.Common.{◌≡◌, ◌≢◌, ℕ, Bool, List, [], ◌∷◌, true, false, not, Option, Some, None, refl}
use Rattle.base_model.specs.Keyed.{Text, at}
use Rattle.race_model.specs.Stores.{Cell}
use Rattle.race_model.specs.Machines.{Settings}
use Rattle.race_model.specs.Generations.{Generation, Generations}
use Rattle.race_model.specs.Worlds.{Entry}
use Rattle.race_model.specs.Journals.{Has}
use Rattle.race_model.specs.Runs.{IsRun}
use Rattle.race_model.specs.Openings.{Opening, opening_generations, found_at_opening, first_trace, IsJournal}
use Rattle.document_model.specs.Documents.{Doc}
use Rattle.document_model.specs.Registries.{Registry}
use Rattle.query_model.specs.declared.parts.Target.{Target}
use Rattle.query_model.specs.Queries.{Query}
use Rattle.call_model.specs.declared.refuse.Refuse.{Refuse}
use Rattle.call_model.specs.declared.refuse.Refuse.TheVariants.{Busy}
use Rattle.call_model.specs.Words.{Words}
use Rattle.call_model.specs.Calls.{Answer}
use Rattle.call_model.specs.Calls.Answer.{Refused}
use Rattle.call_model.specs.Calls.Call.{Resolving}
use Rattle.call_model.specs.Acts.{first_of, is_space, is_unknown, bad_id, raw_of}
use Rattle.call_model.specs.Steps.{call_step, work_step, unless_words, resolve, resolved_over, exact_over, resolved_by, seen_over, counted, alias_of, alias_target, target_raw, work_of, Work}
use Rattle.call_model.specs.Steps.Work.{Following}
use Rattle.call_model.specs.Scripts.{Script}
use Rattle.call_model.specs.Upgrades.{call_race}
use Rattle.call_model.specs.History.{IsLegal, stood_before}
use Rattle.call_history.specs.Plans.{Plans}
use Rattle.call_history.specs.Claims.{AreNumbered, AreFresh, scenario}
use Rattle.call_history.proofs.Planned.{plans}
use Rattle.call_history.proofs.Standing.{none_yet}
use Rattle.call_history.proofs.Legality.{legal_run, all_begin}

pub plans_are : {A O F : Type 0} (w : Words A O F) (settings : ℕ → Settings (Doc A) (Query F)) (opening : Generations (Doc A)) → AreNumbered opening → Plans {O = O} w settings opening
plans_are w settings opening n = plans w settings opening (record { each = n })

pub runs_legal : {A O F : Type 0} (w : Words A O F) (settings : ℕ → Settings (Doc A) (Query F)) (sets : List (Settings (Doc A) (Query F))) (version_in : Text → Option Text) (current : Text) (opening : Opening (Doc A) (Query F)) (instances : ℕ) (scripts : List (Script A O))
    (journal : List (Entry (Doc A) (Query F))) (last : Generations (Doc A)) → ((i : ℕ) → Has (settings i) sets) → ((i : ℕ) → (text : Text) × (version_in (settings i).target ≡ Some text)) → AreNumbered (opening_generations opening) → AreFresh scripts
    → IsRun (call_race {O = O} w settings) current version_in (found_at_opening opening) (opening_generations opening) journal last → IsJournal (scenario w settings sets current opening instances scripts) journal
    → IsLegal w version_in (scenario w settings sets current opening instances scripts) journal
unfolding stood_before
runs_legal w settings sets version_in current opening instances scripts journal last in_sets versions numbered fresh run conforms =
    legal_run w settings sets scripts (opening_generations opening) version_in current in_sets versions (plans_are w settings (opening_generations opening) numbered)
    journal [] (found_at_opening opening) [] (opening_generations opening) last (first_trace (scenario w settings sets current opening instances scripts)) run conforms
    (λ q l. refl) (none_yet settings (opening_generations opening)) refl
    (all_begin w settings sets scripts (opening_generations opening) version_in current in_sets versions (plans_are w settings (opening_generations opening) numbered) fresh)

-- no resolve on one table is busy
module _ {A O F : Type 0} (w : Words A O F) (reg : Registry O) (space : Text) (q : Target) (now : Generation (Doc A)) (a b : Option ℕ) where
  abbrev NotBusy : Answer A → Type 0
  NotBusy x = x ≢ Refused (Busy a b)

  exact_not : (raw : Text) (c : Option (Cell (Doc A))) → NotBusy (exact_over reg raw c)
  exact_not raw None e = cc
  exact_not raw (Some c) e = cc

  both_not : (raw : Text) (t : Target) (c d : Option (Cell (Doc A))) → NotBusy (resolved_over reg raw t c d)
  both_not raw t None None e = cc
  both_not raw t (Some c) None e = cc
  both_not raw t None (Some d) e = cc
  both_not raw t (Some c) (Some d) e = cc

  by_not : (t : Option Target) (exact : Option (Cell (Doc A))) (rows : Target → Option (Cell (Doc A))) → NotBusy (resolved_by reg space q t exact rows)
  by_not None exact rows = exact_not (raw_of reg space q) (seen_over reg space q exact)
  by_not (Some t) exact rows = both_not (raw_of reg space q) t (seen_over reg space q exact) (counted reg space t (rows t))

  words_not : (t u v : Bool) (work : Work A) → NotBusy (work_step w reg now.blocked now.table work).1 → NotBusy (work_step w reg now.blocked now.table (unless_words (first_of ((t, Refuse.BadSpace) ∷ (u, Refuse.UnsupportedType) ∷ (v, Refuse.BadId) ∷ [])) work)).1
  words_not true u v work h e = cc
  words_not false true v work h e = cc
  words_not false false true work h e = cc
  words_not false false false work h e = h e

  pub not_busy : NotBusy (call_step w reg now.blocked now.table (Resolving space q)).1
  unfolding call_step work_of resolve
  not_busy = words_not (not (is_space space)) (is_unknown reg q.type_name) (bad_id q.id) (Following space q)
      (by_not (alias_target w (at (alias_of space q) now.table.rows)) (at (raw_of reg space q) now.table.rows) (λ t. at (target_raw t) now.table.rows))
