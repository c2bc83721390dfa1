-- The items of a bulk with tokens are those of the answers that they stand for.
use Rattle.std.proofs.Common.{◌≡◌, List, [], ◌∷◌, map, refl}
use Rattle.so_js.specs.declared.js.Js.{Js}
use Rattle.call_model.specs.Calls.{Answer}
use Rattle.call_model.specs.Calls.Answer.{Object, Each, Deleted, Page, Spaces, Resolved, Refused}
use Rattle.call_model.specs.Steps.{one_of, each_of}
use Rattle.call_words.specs.declared.answers.One.{One}
use Rattle.call_words.specs.Told.{answer_with_token, one_with_token}
use Rattle.object_answers.specs.Forms.{item_of}

item_with_token : (a : Answer Js) → item_of (answer_with_token a) ≡ one_with_token (one_of a)
item_with_token (Object s) = refl
item_with_token (Each ones) = refl
item_with_token Deleted = refl
item_with_token (Page objects page per_page total) = refl
item_with_token (Spaces spaces) = refl
item_with_token (Resolved s outcome alias_target) = refl
item_with_token (Refused r) = refl

next : (a b : One) (more others : List One) → a ≡ b → more ≡ others → a ∷ more ≡ b ∷ others
next a b more others here later = cc

pub items_with_token : (all : List (Answer Js)) → map item_of (map answer_with_token all) ≡ map one_with_token (each_of all)
items_with_token [] = refl
items_with_token (a ∷ all) = next _ _ _ _ (item_with_token a) (items_with_token all)
