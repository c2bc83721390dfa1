-- Worked rows of one version, computed.
use Rattle.std.proofs.Common.{◌≡◌, ℕ, List, [], ◌∷◌, ◌++◌, length, true, false, Option, Some, None, refl}
use Rattle.base_model.specs.Keyed.{same, text_lt, at, put, without}
use Rattle.race_model.specs.Stores.{write, write_all, items_of, numbered, pit_at, close, meant, aliases_without, act, act_all, serve}
use Rattle.race_model.specs.Machines.{request, moved, raws_where, collision, pass_after, gathered, batch, last_of, rewrites, StateName}
use Rattle.race_model.specs.Machines.State.{Ended}
use Rattle.race_model.specs.Machines.End.{GaveUp}
use Rattle.race_model.specs.Worlds.{Entry, How, World, nth, with_nth, happens, run, open_world}
use Rattle.race_model.specs.Worlds.Event.{Step, Lost, Stop, Start}
use Rattle.race_model.specs.History.{Fact, named_after_all, last_add, is_listed, facts_from, facts}
use Rattle.race_rows.proofs.Sample.{Q, current, alias_of, target_of, temp_of, version_in, upgrade, opening, empty, two, moved_two, times, ends, delays, done, history, refusals, index_of}
use Rattle.race_model.specs.Stores.Refusal.{Exists, Blocked, AliasMissing}
use Rattle.race_model.specs.Worlds.How.{Unheard}

-- three instances race the upgrade of an empty store
abbrev three_race : World ℕ Q ℕ
three_race = run (upgrade 1000) (open_world (opening []) 3 []) (Start 1 ∷ Start 2 ∷ Start 3 ∷ times 14 (Step 1 ∷ Step 2 ∷ Step 3 ∷ []))

three_race_ends : (length three_race.journal ≡ 41) × (ends three_race.nodes ≡ done 12 ∷ done 12 ∷ done 12 ∷ [])
unfolding same text_lt at put without write write_all items_of numbered pit_at close meant aliases_without act act_all serve request moved raws_where collision pass_after gathered batch last_of rewrites nth with_nth happens run named_after_all last_add is_listed facts_from
three_race_ends = (refl, refl)

three_race_history : history three_race ≡ Fact.Block 7 ∷ Fact.Migrate 37 (target_of 12) (12 ∷ []) ∷ []
unfolding same text_lt at put without write write_all items_of numbered pit_at close meant aliases_without act act_all serve request moved raws_where collision pass_after gathered batch last_of rewrites nth with_nth happens run named_after_all last_add is_listed facts_from
three_race_history = refl

three_race_store : (at (temp_of 12) three_race.store.indices ≡ None) × (at (target_of 12) three_race.store.indices ≡ Some (index_of false (Some (target_of 11)) [] 0)) × (three_race.store.aliases ≡ (current, target_of 12) ∷ (alias_of 11, target_of 11) ∷ (alias_of 12, target_of 12) ∷ [])
unfolding same text_lt at put without write write_all items_of numbered pit_at close meant aliases_without act act_all serve request moved raws_where collision pass_after gathered batch last_of rewrites nth with_nth happens run named_after_all last_add is_listed facts_from
three_race_store = (refl, refl, refl)

-- a switch is lost and the instance starts again
abbrev lost_switch : World ℕ Q ℕ
lost_switch = run (upgrade 1000) (open_world (opening []) 1 []) (Start 1 ∷ times 12 (Step 1 ∷ []) ++ (Lost 1 true ∷ Stop 1 ∷ Start 1 ∷ times 4 (Step 1 ∷ [])))

how_at : ℕ → List (Entry ℕ Q) → Option How
how_at n es = how (nth es n)
  where
    how : Option (Entry ℕ Q) → Option How
    how None = None
    how (Some e) = Some e.how

lost_switch_ends : (length lost_switch.journal ≡ 17) × (how_at 13 lost_switch.journal ≡ Some Unheard) × (ends lost_switch.nodes ≡ done 12 ∷ []) × (history lost_switch ≡ Fact.Block 3 ∷ Fact.Migrate 13 (target_of 12) (12 ∷ []) ∷ [])
unfolding same text_lt at put without write write_all items_of numbered pit_at close meant aliases_without act act_all serve request moved raws_where collision pass_after gathered batch last_of rewrites nth with_nth happens run named_after_all last_add is_listed facts_from how_at
lost_switch_ends = (refl, refl, refl, refl)

-- a create that comes after the switch makes the temporary index again
abbrev late_create : World ℕ Q ℕ
late_create = run (upgrade 1) (open_world (opening two) 3 [])
    (Start 1 ∷ Start 2 ∷ Start 3 ∷ times 6 (Step 3 ∷ []) ++ (times 3 (Step 2 ∷ []) ++ (times 17 (Step 1 ∷ []) ++ (times 1 (Step 2 ∷ []) ++ (times 12 (Step 3 ∷ []) ++ times 11 (Step 2 ∷ []))))))

late_create_ends : (length late_create.journal ≡ 50) × (ends late_create.nodes ≡ done 12 ∷ done 12 ∷ done 12 ∷ []) × (history late_create ≡ Fact.Block 3 ∷ Fact.Migrate 26 (target_of 12) (12 ∷ []) ∷ [])
unfolding same text_lt at put without write write_all items_of numbered pit_at close meant aliases_without act act_all serve request moved raws_where collision pass_after gathered batch last_of rewrites nth with_nth happens run named_after_all last_add is_listed facts_from
late_create_ends = (refl, refl, refl)

late_create_store : late_create.store.indices ≡ (target_of 11, index_of true None two 2) ∷ (target_of 12, index_of false (Some (target_of 11)) moved_two 2) ∷ (temp_of 12, index_of true (Some (target_of 11)) moved_two 2) ∷ []
unfolding same text_lt at put without write write_all items_of numbered pit_at close meant aliases_without act act_all serve request moved raws_where collision pass_after gathered batch last_of rewrites nth with_nth happens run named_after_all last_add is_listed facts_from
late_create_store = refl

-- a bulk meets the block of the temporary index, and a switch finds the alias gone
abbrev blocked_bulk : World ℕ Q ℕ
blocked_bulk = run (upgrade 1) (open_world (opening two) 2 []) (Start 1 ∷ Start 2 ∷ times 6 (Step 2 ∷ []) ++ (times 12 (Step 1 ∷ []) ++ (times 8 (Step 2 ∷ []) ++ times 6 (Step 1 ∷ []))))

blocked_bulk_ends : (length blocked_bulk.journal ≡ 32) × (ends blocked_bulk.nodes ≡ done 12 ∷ done 12 ∷ [])
unfolding same text_lt at put without write write_all items_of numbered pit_at close meant aliases_without act act_all serve request moved raws_where collision pass_after gathered batch last_of rewrites nth with_nth happens run named_after_all last_add is_listed facts_from
blocked_bulk_ends = (refl, refl)

blocked_bulk_refusals : refusals 1 blocked_bulk.journal ≡ (10, Exists (temp_of 12) (Some (target_of 11))) ∷ (19, Blocked (temp_of 12)) ∷ (27, Exists (target_of 12) (Some (target_of 11))) ∷ (31, AliasMissing current (target_of 11)) ∷ []
unfolding same text_lt at put without write write_all items_of numbered pit_at close meant aliases_without act act_all serve request moved raws_where collision pass_after gathered batch last_of rewrites nth with_nth happens run named_after_all last_add is_listed facts_from
blocked_bulk_refusals = refl

-- sixteen faults give up
abbrev sixteen_faults : World ℕ Q ℕ
sixteen_faults = run (upgrade 1000) (open_world (opening []) 1 []) (Start 1 ∷ times 16 (Lost 1 false ∷ []))

sixteen_faults_give_up : (ends sixteen_faults.nodes ≡ Some (Ended (GaveUp StateName.Init 16)) ∷ []) × (delays sixteen_faults.nodes ≡ 702000 ∷ [])
unfolding same text_lt at put without write write_all items_of numbered pit_at close meant aliases_without act act_all serve request moved raws_where collision pass_after gathered batch last_of rewrites nth with_nth happens run named_after_all last_add is_listed facts_from
sixteen_faults_give_up = (refl, refl)

-- fifteen don't
abbrev fifteen_faults : World ℕ Q ℕ
fifteen_faults = run (upgrade 1000) (open_world (opening []) 1 []) (Start 1 ∷ times 15 (Lost 1 false ∷ []) ++ times 13 (Step 1 ∷ []))

fifteen_faults_are_borne : (ends fifteen_faults.nodes ≡ done 12 ∷ []) × (delays fifteen_faults.nodes ≡ 702000 ∷ [])
unfolding same text_lt at put without write write_all items_of numbered pit_at close meant aliases_without act act_all serve request moved raws_where collision pass_after gathered batch last_of rewrites nth with_nth happens run named_after_all last_add is_listed facts_from
fifteen_faults_are_borne = (refl, refl)

-- two instances deploy into an empty store
abbrev fresh : World ℕ Q ℕ
fresh = run (upgrade 1000) (open_world empty 2 []) (Start 1 ∷ Start 2 ∷ times 3 (Step 1 ∷ Step 2 ∷ []))

fresh_ends : (length fresh.journal ≡ 6) × (ends fresh.nodes ≡ done 12 ∷ done 12 ∷ []) × (facts current version_in None fresh.journal ≡ Fact.Install 5 (target_of 12) (12 ∷ []) ∷ [])
unfolding same text_lt at put without write write_all items_of numbered pit_at close meant aliases_without act act_all serve request moved raws_where collision pass_after gathered batch last_of rewrites nth with_nth happens run named_after_all last_add is_listed facts_from
fresh_ends = (refl, refl, refl)
