-- Indices that are taken out one after another, and what is shown of indices one after another.
use Rattle.std.proofs.Common.{◌≡◌, ℕ, zero, suc, ◌+◌, Option, List, [], ◌∷◌, ◌++◌, take, map, refl, sym, ◌∙◌, ap, subst, add-one}
use Rattle.std.specs.Option.{IsSome, option_map, option_to_list}
use Rattle.std.specs.List.{slice_get}
use Rattle.document_model.specs.Documents.{Doc}
use Rattle.so_js.specs.declared.js.Js.{Js}
use Rattle.race_model.specs.Stores.{Index, IndexSeen}
use Rattle.base_model.specs.Keyed.{Text, Keyed, at}
use Rattle.index_store.specs.Indices.{without_index, shown_in}
use Rattle.store_words.specs.Serving.{Store}
use Rattle.store_core.specs.Engines.{without_all, AreThere}

pub first_there : (st : Store) (a : Text) (rest l : List Text) → l ≡ a ∷ rest → AreThere st.indices l → IsSome (at a st.indices)
unfolding AreThere
first_there st a rest l e h = (subst (λ (x : List Text). AreThere st.indices x) e h).0

pub rest_there : (st now : Store) (a : Text) (rest l : List Text) → l ≡ a ∷ rest → now ≡ without_index st a → AreThere st.indices l → AreThere now.indices rest
unfolding AreThere
rest_there st now a rest l e f h = subst (λ (x : Store). AreThere x.indices rest) (sym f) (subst (λ (x : List Text). AreThere st.indices x) e h).1

pub rest_without : (st now : Store) (a : Text) (rest l : List Text) → l ≡ a ∷ rest → now ≡ without_index st a → without_all now rest ≡ without_all st l
unfolding without_all
rest_without st now a rest l e f = ap (λ (x : Store). without_all x rest) f ∙ ap (λ (x : List Text). without_all st x) (sym e)

pub none_without : (st : Store) → without_all st [] ≡ st
unfolding without_all
none_without st = refl

-- ---- what is shown

step_shown : (ixs : Keyed (Index (Doc Js))) (i : ℕ) → map shown_in (take (suc i) ixs) ≡ map shown_in (take i ixs) ++ option_to_list (option_map shown_in (slice_get ixs i))
step_shown [] zero = refl
step_shown [] (suc i) = refl
step_shown (e ∷ ixs) zero = refl
step_shown (e ∷ ixs) (suc i) = ap (λ (es : Keyed IndexSeen). shown_in e ∷ es) (step_shown ixs i)

-- one more index shown
pub shown_on : (ixs : Keyed (Index (Doc Js))) (i : ℕ) (old now : Keyed IndexSeen) (o : Option (Text × IndexSeen)) → old ≡ map shown_in (take i ixs) → o ≡ option_map shown_in (slice_get ixs i) → now ≡ old ++ option_to_list o → now ≡ map shown_in (take (i + 1) ixs)
shown_on ixs i old now o e f g =
    g ∙ ap (λ (es : Keyed IndexSeen). es ++ option_to_list o) e ∙ ap (λ (x : Option (Text × IndexSeen)). map shown_in (take i ixs) ++ option_to_list x) f
    ∙ sym (step_shown ixs i) ∙ ap (λ (n : ℕ). map shown_in (take n ixs)) (sym (add-one i))
