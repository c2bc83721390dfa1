-- The laws, as lemmas.
use Rattle.std.proofs.Common.{ℕ, Bool, List}
use Rattle.base_model.specs.Keyed.{Text}
use Rattle.race_model.specs.Stores.{Rows}
use Rattle.race_model.specs.Machines.{Settings}
use Rattle.race_model.specs.Worlds.{Entry}
use Rattle.race_model.specs.Openings.{Scenario, IsJournal, trace_after}
use Rattle.race_model.specs.Premises.{IsFair, Paged}
use Rattle.race_bound.specs.Short.{AllShort}
use Rattle.std.proofs.Common.{IsTrue}
use Rattle.race_model.specs.Openings.{IsEmptyOpening, opening_store}
use Rattle.race_facts.proofs.Opening.{every_sound, opens_well}
use Rattle.race_bound.proofs.Claiming.{starts_short}

-- Along every journal that conforms no start of an instance looks again once it heard a reply, and each hears at most fourteen replies and two for each page of a blocked generation of a version below, in pages of its own instance.
pub starts_are_short : {D Q C : Type 0} → (scenario : Scenario D Q C) (is_fresh : Settings D Q → Text → D → Bool) (is_sound : C → Bool) (pages : ℕ → Rows D → ℕ) (journal : List (Entry D Q)) → IsFair scenario is_fresh is_sound → ((i : ℕ) → Paged scenario.race.select (scenario.race.settings i) (pages i)) → IsJournal scenario journal → AllShort scenario.race pages scenario.sets (trace_after scenario journal)
starts_are_short = λ s is_fresh is_sound pages journal fair paged conforms.
    starts_short s.race s.current s.sets (λ v raw doc. IsTrue (is_fresh v raw doc)) (λ x. IsTrue (is_sound x)) fair.laws (IsEmptyOpening s.opening) (opening_store s.current s.opening)
    (opens_well s.race s.current s.sets (λ v raw doc. IsTrue (is_fresh v raw doc)) (λ x. IsTrue (is_sound x)) fair.laws s.opening fair.opens) pages paged s.instances s.scripts journal (every_sound is_sound s.scripts fair.sound) conforms
