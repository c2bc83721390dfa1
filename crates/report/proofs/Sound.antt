-- An object whose keys rise and whose values are sound is sound, whichever of its members are there.
use Rattle.std.proofs.Common.{◌≡◌, ◌++◌, ◌∷◌, [], List, map, Option, Some, None, true, Less, refl, ap, ◌∙◌}
use Rattle.std.specs.Ordering.{nat_cmp, is_lt}
use Rattle.std.specs.Cmp.Lexicographic.{slice_cmp}
use Rattle.std.proofs.lemmas.Bool.{and_from}
use Rattle.base_model.specs.Keyed.{Text}
use Rattle.so_js.specs.Tree.{is_sound, are_rising, keys_of}
use Rattle.so_js.specs.declared.js.Js.TheVariants.{Object}
use Rattle.so_js.specs.declared.js.Member.{Member}
use Rattle.so_js.specs.declared.js.Js.{Js}
use Rattle.so_js.proofs.TreeLaws.{is_sound-Object, IsBelowAll, are_rising_parts}
use Rattle.saved_doc.specs.Writing.{if_some}
use Rattle.report.specs.declared.fields.Field.{Field}
use Rattle.report.specs.Members.{members_there, rise, values_are_sound}

abbrev field_keys : List Field → List Text
field_keys fields = map (λ f. f.key) fields

rising_from : (k : Text) (more : List Text) → IsBelowAll k more → are_rising more ≡ true → are_rising (k ∷ more) ≡ true
rising_from k [] below rising = refl
rising_from k (l ∷ more) below rising = and_from _ _ (ap is_lt below.0) rising

below-if_some : (k j : Text) (value : Option Js) (more : List (Member Js)) → slice_cmp nat_cmp k j ≡ Less → IsBelowAll k (keys_of more) → IsBelowAll k (keys_of (if_some j value ++ more))
below-if_some k j None more first below = below
below-if_some k j (Some v) more first below = (first, below)

below-members_there : (k : Text) (fields : List Field) → IsBelowAll k (field_keys fields) → IsBelowAll k (keys_of (members_there fields))
below-members_there k [] h = tt
below-members_there k (f ∷ fields) h = below-if_some k f.key f.value (members_there fields) h.0 (below-members_there k fields h.1)

rising-if_some : (j : Text) (value : Option Js) (more : List (Member Js)) → IsBelowAll j (keys_of more) → are_rising (keys_of more) ≡ true → are_rising (keys_of (if_some j value ++ more)) ≡ true
rising-if_some j None more below rising = rising
rising-if_some j (Some v) more below rising = rising_from j (keys_of more) below rising

rising-members_there : (fields : List Field) → rise fields ≡ true → are_rising (keys_of (members_there fields)) ≡ true
rising-members_there [] h = refl
rising-members_there (f ∷ fields) h =
    let parts = are_rising_parts f.key (field_keys fields) h in
    rising-if_some f.key f.value (members_there fields) (below-members_there f.key fields parts.0) (rising-members_there fields parts.1)

pub is_sound-members : (fields : List Field) (members : List (Member Js)) → members ≡ members_there fields → rise fields ≡ true → values_are_sound members ≡ true → is_sound (Object members) ≡ true
is_sound-members fields members is rising sound =
    is_sound-Object members
    ∙ and_from _ _ sound (ap (λ (ms : List (Member Js)). are_rising (keys_of ms)) is ∙ rising-members_there fields rising)
