-- The laws, as lemmas.
use Rattle.std.proofs.Common.{List, Bool}
use Rattle.base_model.specs.Keyed.{Text}
use Rattle.race_model.specs.Machines.{Settings}
use Rattle.race_model.specs.Worlds.{Event}
use Rattle.race_model.specs.Openings.{Scenario, IsEmptyOpening, world_after}
use Rattle.race_model.specs.Premises.{IsFair}
use Rattle.race_facts.specs.Raced.{Raced}
use Rattle.std.proofs.Common.{IsTrue}
use Rattle.race_model.specs.Openings.{IsEmptyOpening, opening_store}
use Rattle.race_facts.proofs.Opening.{every_sound, opens_well}
use Rattle.race_facts.proofs.Claiming.{worlds_raced}

-- Whatever happens in a world: an instance that is done names its version's one target; a fatal cause is one that can come; no instance writes documents into a target; and until a version's switch its target is exactly the migrated table of the blocked source.
pub worlds_race : {D Q C : Type 0} → (scenario : Scenario D Q C) (is_fresh : Settings D Q → Text → D → Bool) (is_sound : C → Bool) (events : List Event) → IsFair scenario is_fresh is_sound → Raced scenario.race scenario.sets (IsEmptyOpening scenario.opening) (world_after scenario events)
worlds_race = λ s is_fresh is_sound events fair.
    worlds_raced s.race s.current s.sets (λ v raw doc. IsTrue (is_fresh v raw doc)) (λ x. IsTrue (is_sound x)) fair.laws (IsEmptyOpening s.opening) (opening_store s.current s.opening)
    (opens_well s.race s.current s.sets (λ v raw doc. IsTrue (is_fresh v raw doc)) (λ x. IsTrue (is_sound x)) fair.laws s.opening fair.opens)
    s.instances s.scripts events (every_sound is_sound s.scripts fair.sound)
