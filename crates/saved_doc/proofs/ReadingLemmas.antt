-- Reading part after part and item after item.
use Rattle.std.proofs.Common.{◌≡◌, List, [], ◌∷◌, ◌++◌, Ok, Err, Bool, true, false, ◌||◌, refl, sym, ap, append_assoc, if◌then◌else◌}
use Rattle.std.specs.List.{list_any}
use Rattle.std.specs.Str.{bytes_eq}
use Rattle.base_model.specs.Keyed.{Text, same}
use Rattle.document_model.specs.Documents.{lists}
use Rattle.saved_doc.specs.declared.error.DocError.{DocError}
use Rattle.saved_doc.specs.declared.error.DocError.TheVariants.{Memory, MissingField, WrongKind, BadVersion, BadSpace, UnknownField}
use Rattle.saved_doc.specs.Reading.{Read, read_then, Refuses}

-- a fault of the first part is the fault of all
pub Refuses-read_then : {A B : Type 0} (e : DocError) (read : Read A) (more : A → Read B) → Refuses e read → Refuses e (read_then read more)
Refuses-read_then Memory read more h = tt
Refuses-read_then MissingField read more h = rw h refl
Refuses-read_then WrongKind read more h = rw h refl
Refuses-read_then BadVersion read more h = rw h refl
Refuses-read_then BadSpace read more h = rw h refl
Refuses-read_then UnknownField read more h = rw h refl

-- what was read, and what is left, makes the whole
abbrev pub onto : {B : Type 0} → List B → Read (List B) → Read (List B)
onto done rest = read_then rest (λ ys. Ok (done ++ ys))

pub onto-each : {A B : Type 0} (read : A → Read B) (done : List B) (x : A) (y : B) (rest : Read (List B)) → read x ≡ Ok y
    → onto done (read_then (read x) (λ z. read_then rest (λ ys. Ok (z ∷ ys)))) ≡ onto (done ++ y ∷ []) rest
onto-each read done x y (Ok ys) is = rw is (ap (λ (all : List _). Ok all) (sym (append_assoc done (y ∷ []) ys)))
onto-each read done x y (Err e) is = rw is refl

-- a text stands in a list
pub any_is_lists : (a : Text) (texts : List Text) → list_any (λ b. bytes_eq a b) texts ≡ lists a texts
unfolding lists same
any_is_lists a [] = refl
any_is_lists a (b ∷ bs) = more (bytes_eq a b) (list_any (λ c. bytes_eq a c) bs) (lists a bs) (any_is_lists a bs)
  where
    more : (t x y : Bool) → x ≡ y → (t || x) ≡ (if t then true else y)
    more true x y e = refl
    more false x y e = e
