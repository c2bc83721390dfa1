-- Which rows a query selects, and in which order.
use Rattle.std.specs.Prelude.{ℕ, Bool, true, false, ◌&&◌, ◌||◌, not, List, [], ◌∷◌, length, take, drop, reverse, Option, Some, None, if◌then◌else◌}
use Rattle.base_model.specs.Keyed.{Text, same, text_lt}
use Rattle.race_model.specs.Stores.{Cell, Rows, Select}
use Rattle.space_scope.specs.declared.kind.Kind.{Kind}
use Rattle.document_model.specs.declared.reference.Ref.{Ref}
use Rattle.document_model.specs.Documents.{below, Doc, visible, lists, id_of}
use Rattle.query_model.specs.declared.parts.Target.{Target}
use Rattle.query_model.specs.declared.parts.TypeKind.{TypeKind}
use Rattle.query_model.specs.declared.parts.TypeVer.{TypeVer}
use Rattle.query_model.specs.declared.parts.Sort.{Sort}
use Rattle.query_model.specs.declared.parts.Sort.TheVariants.{Raw, UpdatedAt}

-- what a query asks, with a filter of type F
pub record Query (F : Type 0) : Type 0 where
  pub types : Option (List TypeKind)
  pub not_types : List Text
  pub space : Option Text
  pub reference : Option Target
  pub origin : Option Text
  pub outdated : List TypeVer
  pub after : Option Text
  pub sort : Sort
  pub descending : Bool
  pub skip : ℕ
  pub limit : Option ℕ
  pub filter : Option F

-- what a filter says of a document: by its type and its attributes
abbrev pub Holds : (A F : Type 0) → Type 0
Holds A F = F → Text → A → Bool

-- what one member of a query asks of a row, true where the member is missing
abbrev pub if_given : {T : Type 0} → Option T → (T → Bool) → Bool
if_given None test = true
if_given (Some t) test = test t

-- the document is visible in the query's space, where it has one
abbrev pub seen_in : {A : Type 0} → Option Text → Kind → Doc A → Bool
seen_in None kind doc = true
seen_in (Some space) kind doc = visible kind space doc

-- some entry has the document's type, by whose kind it is visible
abbrev pub of_types : {A : Type 0} → Option Text → Doc A → List TypeKind → Bool
of_types space doc [] = false
of_types space doc (t ∷ ts) = (same t.name doc.type_name && seen_in space t.kind doc) || of_types space doc ts

-- one of the references is to the target
abbrev pub refers : List Ref → Target → Bool
refers [] t = false
refers (r ∷ rs) t = (same r.type_name t.type_name && same r.id t.id) || refers rs t

-- the origin is this id
abbrev pub origin_is : Text → Option Text → Bool
origin_is o None = false
origin_is o (Some x) = same o x

-- some entry has the document's type, and the document's stamp is missing or below that entry's version
unfoldable pub is_outdated : {A : Type 0} → Doc A → List TypeVer → Bool
is_outdated doc [] = false
is_outdated doc (t ∷ ts) = if same t.name doc.type_name then (if below doc.stamp t.latest then true else is_outdated doc ts) else is_outdated doc ts

-- an empty list asks nothing
abbrev pub outdated_for : {A : Type 0} → Doc A → List TypeVer → Bool
outdated_for doc [] = true
outdated_for doc (t ∷ ts) = is_outdated doc (t ∷ ts)

-- whether a row is selected: all that the query asks holds of it
abbrev pub selects : {A F : Type 0} → Holds A F → Query F → Text → Doc A → Bool
selects holds q raw doc =
    if_given q.types (of_types q.space doc)
    && not (lists doc.type_name q.not_types)
    && if_given q.reference (refers doc.references)
    && if_given q.origin (λ o. origin_is o doc.origin || same o (id_of raw doc))
    && outdated_for doc q.outdated
    && if_given q.after (λ a. text_lt a raw)
    && if_given q.filter (λ f. holds f doc.type_name doc.attributes)

-- a missing time is the empty text
abbrev pub time_of : Option Text → Text
time_of None = []
time_of (Some t) = t

-- by time the first comes before the second, or they are level
abbrev pub not_after : {A : Type 0} → Bool → Doc A → Doc A → Bool
not_after false a b = not (text_lt (time_of b.updated_at) (time_of a.updated_at))
not_after true a b = not (text_lt (time_of a.updated_at) (time_of b.updated_at))

-- a row put before the first that it doesn't come after
abbrev pub placed : {A : Type 0} → Bool → Text × Cell (Doc A) → Rows (Doc A) → Rows (Doc A)
placed descending r [] = r ∷ []
placed descending r (s ∷ rows) = if not_after descending r.1.doc s.1.doc then r ∷ s ∷ rows else s ∷ placed descending r rows

-- sorted by time; rows with level times stay in order of raw id
abbrev pub by_time : {A : Type 0} → Bool → Rows (Doc A) → Rows (Doc A)
by_time descending [] = []
by_time descending (r ∷ rows) = placed descending r (by_time descending rows)

-- rows that stand in order of raw id, in the query's order
abbrev pub in_order : {A : Type 0} → Sort → Bool → Rows (Doc A) → Rows (Doc A)
in_order Raw false rows = rows
in_order Raw true rows = reverse rows
in_order UpdatedAt descending rows = by_time descending rows

-- the rows that are selected
unfoldable pub chosen : {A F : Type 0} → Holds A F → Query F → Rows (Doc A) → Rows (Doc A)
chosen holds q [] = []
chosen holds q (r ∷ rows) = if selects holds q r.0 r.1.doc then r ∷ chosen holds q rows else chosen holds q rows

-- at most so many rows
abbrev pub limited : {A : Type 0} → Option ℕ → Rows (Doc A) → Rows (Doc A)
limited None rows = rows
limited (Some n) rows = take n rows

-- the selected rows in order, after `skip` of them, at most `limit`; the total counts all that are selected
abbrev pub select : {A F : Type 0} → Holds A F → Select (Doc A) (Query F)
select holds = record {
  rows = λ q rows. limited q.limit (drop q.skip (in_order q.sort q.descending (chosen holds q rows)));
  total = λ q rows. length (chosen holds q rows);
}
