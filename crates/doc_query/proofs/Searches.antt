-- What a search of a list says in the words of the definitions.
use Rattle.std.proofs.Common.{◌≡◌, Bool, true, false, ◌&&◌, ◌||◌, ◌==◌, not, if◌then◌else◌, List, [], ◌∷◌, length, Option, refl, ap, ◌∙◌}
use Rattle.std.specs.List.{list_any}
use Rattle.std.specs.Str.{bytes_eq}
use Rattle.base_model.specs.Keyed.{Text, same, text_lt}
use Rattle.document_model.specs.declared.reference.Ref.{Ref}
use Rattle.document_model.specs.Documents.{Doc, below, lists, id_of}
use Rattle.query_model.specs.declared.parts.Target.{Target}
use Rattle.query_model.specs.declared.parts.TypeKind.{TypeKind}
use Rattle.query_model.specs.declared.parts.TypeVer.{TypeVer}
use Rattle.query_model.specs.Queries.{Query, Holds, selects, if_given, seen_in, of_types, refers, origin_is, is_outdated, outdated_for}

pub any_is_types : {A : Type 0} (space : Option Text) (doc : Doc A) (types : List TypeKind) → list_any (λ t. bytes_eq t.name doc.type_name && seen_in space t.kind doc) types ≡ of_types space doc types
unfolding same
any_is_types space doc [] = refl
any_is_types space doc (t ∷ ts) = ap (λ (b : Bool). (bytes_eq t.name doc.type_name && seen_in space t.kind doc) || b) (any_is_types space doc ts)

pub any_refers : (target : Target) (refs : List Ref) → list_any (λ r. bytes_eq r.type_name target.type_name && bytes_eq r.id target.id) refs ≡ refers refs target
unfolding same
any_refers target [] = refl
any_refers target (r ∷ rs) = ap (λ (b : Bool). (bytes_eq r.type_name target.type_name && bytes_eq r.id target.id) || b) (any_refers target rs)

first_or : (t x y : Bool) → x ≡ y → (t || x) ≡ (if t then true else y)
first_or true x y e = refl
first_or false x y e = e

pub any_is_lists : (a : Text) (texts : List Text) → list_any (λ b. bytes_eq a b) texts ≡ lists a texts
unfolding lists same
any_is_lists a [] = refl
any_is_lists a (b ∷ bs) = first_or (bytes_eq a b) (list_any (λ c. bytes_eq a c) bs) (lists a bs) (any_is_lists a bs)

both_or : (s t x y : Bool) → x ≡ y → ((s && t) || x) ≡ (if s then (if t then true else y) else y)
both_or true true x y e = refl
both_or true false x y e = e
both_or false t x y e = e

any_outdated : {A : Type 0} (doc : Doc A) (types : List TypeVer) → list_any (λ t. bytes_eq t.name doc.type_name && below doc.stamp t.latest) types ≡ is_outdated doc types
unfolding is_outdated same
any_outdated doc [] = refl
any_outdated doc (t ∷ ts) = both_or (bytes_eq t.name doc.type_name) (below doc.stamp t.latest) _ _ (any_outdated doc ts)

pub any_outdated_for : {A : Type 0} (doc : Doc A) (types : List TypeVer) → (length types == 0) ≡ false → list_any (λ t. bytes_eq t.name doc.type_name && below doc.stamp t.latest) types ≡ outdated_for doc types
any_outdated_for doc [] e = cc
any_outdated_for doc (t ∷ ts) e = any_outdated doc (t ∷ ts)

-- ---- tests in a row

pub and_true : {a v y : Bool} → a ≡ true → v ≡ y → v ≡ (a && y)
and_true e f = rw e f

pub and_false : {a v : Bool} (y : Bool) → a ≡ false → v ≡ a → v ≡ (a && y)
and_false y e f = rw e (f ∙ e)

-- a row is selected where seven tests hold, of which each is made where the ones before do
pub selected : {A F : Type 0} (holds : Holds A F) (q : Query F) (raw : Text) (doc : Doc A) (v1 v2 v3 v4 v5 r : Bool)
    → v1 ≡ (if_given q.types (of_types q.space doc) && not (lists doc.type_name q.not_types))
    → v2 ≡ (v1 && if_given q.reference (refers doc.references))
    → v3 ≡ (v2 && if_given q.origin (λ o. origin_is o doc.origin || same o (id_of raw doc)))
    → v4 ≡ (v3 && outdated_for doc q.outdated)
    → v5 ≡ (v4 && if_given q.after (λ a. text_lt a raw))
    → r ≡ (v5 && if_given q.filter (λ f. holds f doc.type_name doc.attributes))
    → r ≡ selects holds q raw doc
selected holds q raw doc v1 v2 v3 v4 v5 r h1 h2 h3 h4 h5 h6 = rw (h6, h5, h4, h3, h2, h1) refl
