-- What follows a front, part after part.
use Rattle.std.proofs.Common.{◌≡◌, [], ◌∷◌, ◌++◌, Some, None, ◌==◌, refl, sym, ap, ◌∙◌, inl, inr, append_assoc}
use Rattle.std.specs.Option.{option_and_then}
use Rattle.std.proofs.lemmas.Bool.{cases_Bool}
use Rattle.base_model.specs.Keyed.{Text}
use Rattle.document_model.specs.Documents.{after, joined, front}

pub after-chain : (a b x : Text) → after (a ++ b) x ≡ option_and_then (after b) (after a x)
unfolding after
after-chain [] b x = refl
after-chain (c ∷ a) b [] = refl
after-chain (c ∷ a) b (d ∷ x) = elim (cases_Bool (c == d)) [
  | inl same ↦ rw same (after-chain a b x)
  | inr other ↦ rw other refl
]

pub chain-None : (a b x : Text) → after a x ≡ None → after (a ++ b) x ≡ None
chain-None a b x h = after-chain a b x ∙ ap (option_and_then (after b)) h

pub chain-Some : (a b x r : Text) → after a x ≡ Some r → after (a ++ b) x ≡ after b r
chain-Some a b x r h = after-chain a b x ∙ ap (option_and_then (after b)) h

-- the front of a document in a space is the space's part, and then the type's
pub front-is : (space name : Text) → front (Some space) name ≡ joined space [] ++ joined name []
front-is space name = sym (append_assoc space (58 ∷ []) (joined name []))
