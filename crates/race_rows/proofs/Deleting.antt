-- A worked row with a client, computed: late requests after a delete.
use Rattle.std.proofs.Common.{◌≡◌, ℕ, List, [], ◌∷◌, ◌++◌, length, false, Option, Some, None, refl}
use Rattle.base_model.specs.Keyed.{same, text_lt, at, put, without}
use Rattle.race_model.specs.Stores.{Rows, Request, Reply, write, write_all, items_of, numbered, pit_at, close, meant, aliases_without, act, act_all, serve}
use Rattle.race_model.specs.Machines.{request, moved, raws_where, collision, pass_after, gathered, batch, last_of, rewrites}
use Rattle.race_model.specs.Worlds.{Entry, World, Event, nth, with_nth, happens, run, open_world}
use Rattle.race_model.specs.Worlds.Event.{Step, Again, Start}
use Rattle.race_model.specs.History.{named_after_all, last_add, is_listed, facts_from}
use Rattle.race_rows.proofs.Sample.{Q, alias_of, target_of, temp_of, set_of, race_of, opening, a, times, ends, done, index_of}
use Rattle.race_model.specs.Stores.Write.{Delete}
use Rattle.race_model.specs.Stores.Request.{Get, Bulk}
use Rattle.race_model.specs.Stores.Reply.{Found, Items, Refused}
use Rattle.race_model.specs.Stores.Item.{Written}
use Rattle.race_model.specs.Stores.Refusal.{NoIndex}
use Rattle.race_model.specs.Worlds.{Clients}

-- a client of 7.12.0: it gets a; gets a and deletes it by its number; gets a
data Script : Type 0 where
  First_get : Script
  Before_delete : Script
  Deleting : (seq : ℕ) → Script
  Last_get : Script
  Over : Script

abbrev asks : Script → Option (Request ℕ Q)
asks First_get = Some (Get (alias_of 12) (a ∷ []))
asks Before_delete = Some (Get (alias_of 12) (a ∷ []))
asks (Deleting seq) = Some (Bulk (alias_of 12) (Delete a (Some seq) ∷ []))
asks Last_get = Some (Get (alias_of 12) (a ∷ []))
asks Over = None

abbrev told : Script → Reply ℕ → Script
told First_get reply = Before_delete
told Before_delete (Found (Some row ∷ [])) = Deleting row.1.seq
told Before_delete _ = Last_get
told (Deleting seq) reply = Last_get
told Last_get reply = Over
told Over reply = Over

abbrev call_of : Script → ℕ
call_of First_get = 1
call_of Before_delete = 2
call_of (Deleting seq) = 2
call_of Last_get = 3
call_of Over = 3

abbrev deleter : Clients ℕ Q Script
deleter = record { asks = asks; told = told; call = call_of }

abbrev one : Rows ℕ
one = (a, record { seq = 0; doc = 1 }) ∷ []

abbrev late_requests : World ℕ Q Script
late_requests = run (race_of deleter (λ i. set_of 1 12)) (open_world (opening one) 1 (First_get ∷ []))
    (Start 1 ∷ Event.Client 1 ∷ times 15 (Step 1 ∷ []) ++ (Event.Client 1 ∷ Event.Client 1 ∷ Again 1 4 ∷ Again 1 7 ∷ Event.Client 1 ∷ []))

abbrev replies_of : List (Entry ℕ Q) → List ℕ → List (Option (Reply ℕ))
replies_of journal [] = []
replies_of journal (n ∷ ns) = reply (nth journal n) ∷ replies_of journal ns
  where
    reply : Option (Entry ℕ Q) → Option (Reply ℕ)
    reply None = None
    reply (Some e) = Some e.reply

-- not ready, then deleted, then not found
client_is_told : replies_of late_requests.journal (1 ∷ 17 ∷ 18 ∷ 21 ∷ []) ≡ Some (Refused (NoIndex (alias_of 12))) ∷ Some (Found (Some (a, record { seq = 0; doc = 101 }) ∷ [])) ∷ Some (Items (Written 1 ∷ [])) ∷ Some (Found (None ∷ [])) ∷ []
unfolding same text_lt at put without write write_all items_of numbered pit_at close meant aliases_without act act_all serve request moved raws_where collision pass_after gathered batch last_of rewrites nth with_nth happens run named_after_all last_add is_listed facts_from
client_is_told = refl

late_requests_leave : (length late_requests.journal ≡ 21) × (ends late_requests.nodes ≡ done 12 ∷ []) × (at (temp_of 12) late_requests.store.indices ≡ Some (index_of false (Some (target_of 11)) ((a, record { seq = 0; doc = 101 }) ∷ []) 1)) × (at (target_of 12) late_requests.store.indices ≡ Some (index_of false (Some (target_of 11)) [] 2))
unfolding same text_lt at put without write write_all items_of numbered pit_at close meant aliases_without act act_all serve request moved raws_where collision pass_after gathered batch last_of rewrites nth with_nth happens run named_after_all last_add is_listed facts_from
late_requests_leave = (refl, refl, refl, refl)
