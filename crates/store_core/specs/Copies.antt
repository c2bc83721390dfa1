-- Which replies come with a change of the store, and how many results they have.
use Rattle.std.specs.Prelude.{ℕ, ⊤, length}
use Rattle.store_words.specs.declared.request.Request.{Request}
use Rattle.store_words.specs.declared.request.Request.TheVariants.{Bulk}
use Rattle.store_words.specs.declared.reply.Reply.{Reply}
use Rattle.store_words.specs.declared.reply.Reply.TheVariants.{Done, Pit, Items}

-- how many writes a request has
abbrev pub writes_in : Request → ℕ
writes_in (Bulk index items) = length items
writes_in _ = 0

-- how many results of writes a reply has
abbrev pub results_in : Reply → ℕ
results_in (Items items) = length items
results_in _ = 0

-- the reply tells what is there, or refuses
abbrev pub IsRead : Reply → Type 0
IsRead Done = ⊥
IsRead (Pit number) = ⊥
IsRead (Items items) = ⊥
IsRead _ = ⊤
