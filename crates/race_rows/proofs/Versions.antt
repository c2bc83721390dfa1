-- Worked rows of two versions, and of sources, computed.
use Rattle.std.proofs.Common.{◌≡◌, ℕ, List, [], ◌∷◌, ◌++◌, length, true, false, Some, None, refl}
use Rattle.base_model.specs.Keyed.{same, text_lt, at, put, without}
use Rattle.race_model.specs.Stores.{Store, Request, Reply, write, write_all, items_of, numbered, pit_at, close, meant, aliases_without, act, act_all, serve}
use Rattle.race_model.specs.Machines.{request, moved, raws_where, collision, pass_after, gathered, batch, last_of, rewrites}
use Rattle.race_model.specs.Machines.State.{Init, ReindexOpen, Ended}
use Rattle.race_model.specs.Machines.End.{Fatal}
use Rattle.race_model.specs.Worlds.{World, nth, with_nth, happens, run, open_world}
use Rattle.race_model.specs.Worlds.Event.{Step, Start}
use Rattle.race_model.specs.History.{Fact, named_after_all, last_add, is_listed, facts_from}
use Rattle.race_rows.proofs.Sample.{Q, current, alias_of, target_of, temp_of, set_of, upgrade, two_versions, opening, empty, times, ends, done, history, index_of}
use Rattle.race_model.specs.Stores.Request.{Create, Block, Clone}
use Rattle.race_model.specs.Stores.Reply.{Done, Seen, Refused}
use Rattle.race_model.specs.Stores.Refusal.{Exists}
use Rattle.race_model.specs.Machines.Cause.{OtherVersion, Leftover, NewerIndex}

-- two versions, one after the other
abbrev in_turn : World ℕ Q ℕ
in_turn = run two_versions (open_world (opening []) 2 []) (Start 1 ∷ times 13 (Step 1 ∷ []) ++ (Start 2 ∷ times 13 (Step 2 ∷ [])))

in_turn_ends : (length in_turn.journal ≡ 26) × (ends in_turn.nodes ≡ done 12 ∷ done 13 ∷ []) × (history in_turn ≡ Fact.Block 3 ∷ Fact.Migrate 13 (target_of 12) (12 ∷ []) ∷ Fact.Block 16 ∷ Fact.Migrate 26 (target_of 13) (13 ∷ []) ∷ [])
unfolding same text_lt at put without write write_all items_of numbered pit_at close meant aliases_without act act_all serve request moved raws_where collision pass_after gathered batch last_of rewrites nth with_nth happens run named_after_all last_add is_listed facts_from
in_turn_ends = (refl, refl, refl)

in_turn_store : (in_turn.store.aliases ≡ (current, target_of 13) ∷ (alias_of 11, target_of 11) ∷ (alias_of 12, target_of 12) ∷ (alias_of 13, target_of 13) ∷ []) × (at (target_of 12) in_turn.store.indices ≡ Some (index_of true (Some (target_of 11)) [] 0))
unfolding same text_lt at put without write write_all items_of numbered pit_at close meant aliases_without act act_all serve request moved raws_where collision pass_after gathered batch last_of rewrites nth with_nth happens run named_after_all last_add is_listed facts_from
in_turn_store = (refl, refl)

-- a version that is overtaken leaves its temporary index
abbrev overtaken : World ℕ Q ℕ
overtaken = run two_versions (open_world (opening []) 2 []) (Start 1 ∷ Start 2 ∷ times 5 (Step 2 ∷ []) ++ (times 13 (Step 1 ∷ []) ++ times 9 (Step 2 ∷ [])))

overtaken_ends : ends overtaken.nodes ≡ done 12 ∷ Some (Ended (Fatal (OtherVersion (Some (target_of 12))))) ∷ []
unfolding same text_lt at put without write write_all items_of numbered pit_at close meant aliases_without act act_all serve request moved raws_where collision pass_after gathered batch last_of rewrites nth with_nth happens run named_after_all last_add is_listed facts_from
overtaken_ends = refl

abbrev overtaken_again : World ℕ Q ℕ
overtaken_again = run two_versions overtaken (Start 2 ∷ Step 2 ∷ [])

overtaken_again_ends : (length overtaken_again.journal ≡ 28) × (ends overtaken_again.nodes ≡ done 12 ∷ Some (Ended (Fatal (Leftover (temp_of 13) (Some (target_of 11)) (target_of 12)))) ∷ []) × (history overtaken_again ≡ Fact.Block 3 ∷ Fact.Migrate 18 (target_of 12) (12 ∷ []) ∷ []) × (at (target_of 12) overtaken_again.store.indices ≡ Some (index_of false (Some (target_of 11)) [] 0))
unfolding same text_lt at put without write write_all items_of numbered pit_at close meant aliases_without act act_all serve request moved raws_where collision pass_after gathered batch last_of rewrites nth with_nth happens run named_after_all last_add is_listed facts_from
overtaken_again_ends = (refl, refl, refl, refl)

-- an older version finds a newer index
abbrev older : World ℕ Q ℕ
older = run two_versions in_turn (Start 1 ∷ Step 1 ∷ [])

older_ends : ends older.nodes ≡ Some (Ended (Fatal (NewerIndex (target_of 13)))) ∷ done 13 ∷ []
unfolding same text_lt at put without write write_all items_of numbered pit_at close meant aliases_without act act_all serve request moved raws_where collision pass_after gathered batch last_of rewrites nth with_nth happens run named_after_all last_add is_listed facts_from
older_ends = refl

-- two versions at once over an older one, with no fault: 7.12.0 stays current and blocked, and no start of 7.13.0 can go on
abbrev stuck : World ℕ Q ℕ
stuck = run two_versions (open_world (opening []) 3 []) (Start 2 ∷ times 3 (Step 2 ∷ []) ++ (Start 1 ∷ times 13 (Step 1 ∷ []) ++ (Start 3 ∷ times 3 (Step 3 ∷ []) ++ (Step 2 ∷ Step 3 ∷ []))))

stuck_ends : (ends stuck.nodes ≡ done 12 ∷ Some (ReindexOpen (target_of 11)) ∷ Some (Ended (Fatal (Leftover (temp_of 13) (Some (target_of 11)) (target_of 12)))) ∷ []) × (history stuck ≡ Fact.Block 3 ∷ Fact.Migrate 16 (target_of 12) (12 ∷ []) ∷ Fact.Block 19 ∷ [])
unfolding same text_lt at put without write write_all items_of numbered pit_at close meant aliases_without act act_all serve request moved raws_where collision pass_after gathered batch last_of rewrites nth with_nth happens run named_after_all last_add is_listed facts_from
stuck_ends = (refl, refl)

abbrev stuck_again : World ℕ Q ℕ
stuck_again = run two_versions stuck (times 10 (Step 2 ∷ []) ++ (Start 3 ∷ Step 3 ∷ Start 2 ∷ Step 2 ∷ []))

stuck_again_ends : (ends stuck_again.nodes ≡ done 12 ∷ Some (Ended (Fatal (Leftover (temp_of 13) (Some (target_of 11)) (target_of 12)))) ∷ Some (Ended (Fatal (Leftover (temp_of 13) (Some (target_of 11)) (target_of 12)))) ∷ []) × (at (target_of 12) stuck_again.store.indices ≡ Some (index_of true (Some (target_of 11)) [] 0)) × (at current stuck_again.store.aliases ≡ Some (target_of 12))
unfolding same text_lt at put without write write_all items_of numbered pit_at close meant aliases_without act act_all serve request moved raws_where collision pass_after gathered batch last_of rewrites nth with_nth happens run named_after_all last_add is_listed facts_from
stuck_again_ends = (refl, refl, refl)

-- the same in a store that opened empty
abbrev stuck_fresh : World ℕ Q ℕ
stuck_fresh = run two_versions (open_world empty 3 []) (Start 2 ∷ Step 2 ∷ Start 1 ∷ times 3 (Step 1 ∷ []) ++ (Start 3 ∷ times 3 (Step 3 ∷ []) ++ (times 3 (Step 2 ∷ []) ++ (times 6 (Step 3 ∷ []) ++ (Start 3 ∷ Step 3 ∷ [])))))

stuck_fresh_ends : (ends stuck_fresh.nodes ≡ done 12 ∷ Some (Ended (Fatal (OtherVersion (Some (target_of 12))))) ∷ Some (Ended (Fatal (Leftover (target_of 13) None (target_of 12)))) ∷ []) × (at (target_of 12) stuck_fresh.store.indices ≡ Some (index_of true None [] 0))
unfolding same text_lt at put without write write_all items_of numbered pit_at close meant aliases_without act act_all serve request moved raws_where collision pass_after gathered batch last_of rewrites nth with_nth happens run named_after_all last_add is_listed facts_from
stuck_fresh_ends = (refl, refl)

-- an index keeps its source, and hands it to its copies
abbrev replies : Store ℕ → List (Request ℕ Q) → List (Reply ℕ)
replies st [] = []
replies st (ask ∷ asks) = (serve (upgrade 1).select st ask).1 ∷ replies (serve (upgrade 1).select st ask).0 asks

source_is_kept : replies empty (Create (7 ∷ []) (Some (5 ∷ [])) ∷ Create (7 ∷ []) (Some (6 ∷ [])) ∷ Block (7 ∷ []) ∷ Clone (7 ∷ []) (8 ∷ []) ∷ Create (8 ∷ []) None ∷ []) ≡ Done ∷ Refused (Exists (7 ∷ []) (Some (5 ∷ []))) ∷ Done ∷ Done ∷ Refused (Exists (8 ∷ []) (Some (5 ∷ []))) ∷ []
unfolding same text_lt at put without write write_all items_of numbered pit_at close meant aliases_without act act_all serve request moved raws_where collision pass_after gathered batch last_of rewrites nth with_nth happens run named_after_all last_add is_listed facts_from
source_is_kept = refl

-- a temporary index without a source is a leftover
leftover_without_source : moved (set_of 1000 12) Init (Seen ((target_of 11, record { blocked = false; source = None }) ∷ (temp_of 12, record { blocked = false; source = None }) ∷ []) ((current, target_of 11) ∷ (alias_of 11, target_of 11) ∷ [])) ≡ Ended (Fatal (Leftover (temp_of 12) None (target_of 11)))
unfolding same text_lt at put without write write_all items_of numbered pit_at close meant aliases_without act act_all serve request moved raws_where collision pass_after gathered batch last_of rewrites nth with_nth happens run named_after_all last_add is_listed facts_from
leftover_without_source = refl
