-- Answers with tokens in the form of a call, of one object or of many.
use Rattle.std.specs.Prelude.{List, [], ◌∷◌}
use Rattle.call_model.specs.declared.refuse.Refuse.TheVariants.{NotFound}
use Rattle.call_words.specs.declared.answers.Answer.{Answer}
use Rattle.call_words.specs.declared.answers.Answer.TheVariants as told
use Rattle.call_words.specs.declared.answers.One.{One}
use Rattle.call_words.specs.declared.answers.One.TheVariants as told_one

-- the first answer
abbrev pub first_of : List Answer → Answer
first_of [] = told.Each []
first_of (a ∷ answers) = a

-- an answer as that of one item of a bulk
abbrev pub item_of : Answer → One
item_of (told.Object s) = told_one.Object s
item_of (told.Refused r) = told_one.Refused r
item_of _ = told_one.Refused NotFound
