-- A link over a store that nobody shares.
use Rattle.std.specs.Prelude.{ℕ, Bool, ◌==◌, ◌||◌, length, refl}
use Rattle.std.specs.Coded.{Coded, code_by, coded×, coded_ℕ}
use Rattle.store_words.specs.Serving.{Store}
use Rattle.store_core.specs.Journals.{Journaled, journaled_code}

-- the store with its journal, the actor, and how many sends there were and how many of them met a full journal
pub record Linked : Type 0 where
  pub core : Journaled
  pub actor : ℕ
  pub sends : ℕ
  pub full_answers : ℕ

-- what the link was made with: the store's opening, the journal's limit, and the actor
abbrev pub origin_of : Linked → Store × (ℕ × ℕ)
origin_of l = (l.core.opening, (l.core.limit, l.actor))

-- a send met a full journal only where the journal is full
abbrev pub met_full_journals : Journaled → ℕ → Bool
met_full_journals core full_answers = (full_answers == 0) || (length core.journal == core.limit)

-- ---- how the logic stores it

abbrev pub linked_code : Coded Linked
linked_code =
    code_by
    (Journaled × (ℕ × (ℕ × ℕ)))
    (coded× journaled_code (coded× coded_ℕ (coded× coded_ℕ coded_ℕ)))
    (λ l. (l.core, (l.actor, (l.sends, l.full_answers))))
    (λ p. record { core = p.0; actor = p.1.0; sends = p.1.1.0; full_answers = p.1.1.1 })
    (λ _. refl)
