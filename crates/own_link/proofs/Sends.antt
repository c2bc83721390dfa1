-- What a send over a link that nobody shares leaves.
use Rattle.std.proofs.Common.{◌≡◌, ℕ, true, ◌⊎◌, inl, inr, List, [], ◌∷◌, ◌++◌, length, refl, ◌∙◌, ap, arith}
use Rattle.std.specs.Prelude.{◌==◌}
use Rattle.std.proofs.lemmas.Bool.{eqb-true, or_cases}
use Rattle.std.proofs.lemmas.List.{append-nil}
use Rattle.doc_table.specs.RowLists.{Each}
use Rattle.store_words.specs.Links.{HasFailed, IsLate, Rose}
use Rattle.store_words.specs.declared.request.Request.{Request}
use Rattle.store_words.specs.declared.reply.Reply.{Reply}
use Rattle.store_words.specs.declared.entry.Entry.{Entry}
use Rattle.store_words.specs.declared.entry.How.TheVariants.{Heard}
use Rattle.store_words.specs.declared.link.LinkError.TheVariants.{JournalFull}
use Rattle.store_core.specs.Journals.{Journaled}
use Rattle.object_repo.specs.Performing.{Answered, Failed}
use Rattle.own_link.specs.Links.{met_full_journals}

-- one entry was added, of this request and this reply
pub record OneMore (request : Request) (reply : Reply) (old new : List Entry) : Type 0 where
  pub entry : Entry
  pub requests : entry.request ≡ request
  pub replies : entry.reply ≡ reply
  pub grown : new ≡ old ++ entry ∷ []

-- where no send failed no entry is late
none_late : (es : List Entry) → Each (IsLate []) es → es ≡ []
unfolding HasFailed
none_late [] each = refl
none_late (e ∷ es) each = absurd each.0.repeats

pub one_more : (tag : ℕ) (old new : List Entry) (a : Answered [] tag old new) → OneMore a.request a.reply old new
one_more tag old new a =
    let ends = a.made.by_answer in
    let none : ends.late ≡ [] = none_late ends.late ends.others in
    record {
      entry = record { actor = ends.actor; tag = tag; how = Heard; request = a.request; reply = a.reply };
      requests = refl;
      replies = refl;
      grown = a.made.grown ∙ ap (λ (es : List Entry). old ++ es) (ends.whole ∙ ap (λ (es : List Entry). es ++ record { actor = ends.actor; tag = tag; how = Heard; request = a.request; reply = a.reply } ∷ []) none);
    }

-- a request that met a full journal made no entry
pub nothing_made : (tag n : ℕ) (old new : List Entry) → Failed [] tag old new (JournalFull n) → new ≡ old
nothing_made tag n old new f = f.made.grown ∙ ap (λ (es : List Entry). old ++ es) (none_late f.made.made f.made.by_answer) ∙ append-nil old

-- where the count of full answers rose the journal is full
pub met_is_full : (core : Journaled) (before full_answers : ℕ) → met_full_journals core full_answers ≡ true → Rose before full_answers → length core.journal ≡ core.limit
met_is_full core before full_answers met rose = by (or_cases (full_answers == 0) (length core.journal == core.limit) met)
  where
    by : ((full_answers == 0) ≡ true) ⊎ ((length core.journal == core.limit) ≡ true) → length core.journal ≡ core.limit
    by (inl none) = let zero_now : full_answers ≡ 0 = eqb-true full_answers 0 none in absurd (omega arith)
    by (inr full) = eqb-true (length core.journal) core.limit full
