-- What is told of refusals, with tokens in the place of numbers.
use Rattle.std.proofs.Common.{◌≡◌, List, [], ◌∷◌, map, refl, sym, ◌∙◌, ap}
use Rattle.base_model.specs.Keyed.{Text}
use Rattle.document_model.specs.Registries.{Registry}
use Rattle.so_js.specs.declared.js.Js.{Js}
use Rattle.transform_ops.specs.declared.op.Op.{Op}
use Rattle.call_model.specs.Calls.{NewObject, One, Answer}
use Rattle.call_model.specs.Calls.One.{Object as OneObject, Refused as OneRefused}
use Rattle.call_model.specs.Calls.Answer.{Object, Each, Deleted, Page, Spaces, Resolved, Refused}
use Rattle.call_model.specs.declared.refuse.Refuse.{Refuse}
use Rattle.call_effects.specs.Effects.{RefusedAt}
use Rattle.call_words.specs.Told.{one_with_token, answer_with_token}

-- a refusal that is told was answered
pub refused_told : (answer : Answer Js) (why : Refuse) → answer_with_token answer ≡ answer_with_token (Refused why) → answer ≡ Refused why
refused_told (Object s) why e = cc
refused_told (Each ones) why e = cc
refused_told Deleted why e = cc
refused_told (Page objects page per_page total) why e = cc
refused_told (Spaces spaces) why e = cc
refused_told (Resolved s outcome alias_target) why e = cc
refused_told (Refused r) why e = cc

-- the items that were answered, where items were told
pub record IsEach (answer : Answer Js) (ones : List (One Js)) : Type 0 where
  pub items : List (One Js)
  pub answered : answer ≡ Each items
  pub told : map one_with_token ones ≡ map one_with_token items

pub each_told : (answer : Answer Js) (ones : List (One Js)) → answer_with_token answer ≡ answer_with_token (Each ones) → IsEach answer ones
each_told (Object s) ones e = let no : ⊥ = cc in absurd no
each_told (Each items) ones e = record { items = items; answered = refl; told = cc }
each_told Deleted ones e = let no : ⊥ = cc in absurd no
each_told (Page objects page per_page total) ones e = let no : ⊥ = cc in absurd no
each_told (Spaces spaces) ones e = let no : ⊥ = cc in absurd no
each_told (Resolved s outcome alias_target) ones e = let no : ⊥ = cc in absurd no
each_told (Refused r) ones e = let no : ⊥ = cc in absurd no

one_refused : (item : One Js) (why : Refuse) → one_with_token item ≡ one_with_token (OneRefused why) → item ≡ OneRefused why
one_refused (OneObject s) why e = cc
one_refused (OneRefused r) why e = cc

-- items that are told alike are refused alike
pub refused_alike : (reg : Registry Op) (space raw : Text) (objects : List (NewObject Js)) (ones items : List (One Js)) →
    map one_with_token ones ≡ map one_with_token items → RefusedAt reg space raw objects ones → RefusedAt reg space raw objects items
refused_alike reg space raw [] [] [] e h = tt
refused_alike reg space raw [] [] (b ∷ bs) e h = let no : ⊥ = cc in absurd no
refused_alike reg space raw [] (a ∷ rest) items e h = absurd h
refused_alike reg space raw (o ∷ os) [] items e h = absurd h
refused_alike reg space raw (o ∷ os) (a ∷ rest) [] e h = let no : ⊥ = cc in absurd no
refused_alike reg space raw (o ∷ os) (a ∷ rest) (b ∷ bs) e h =
    let head : one_with_token a ≡ one_with_token b = cc in
    let tail : map one_with_token rest ≡ map one_with_token bs = cc in
    (λ same. let r = h.0 same in (r.0, one_refused b r.0 (sym head ∙ ap one_with_token r.1)), refused_alike reg space raw os rest bs tail h.1)
