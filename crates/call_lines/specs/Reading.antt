-- Reading a tree part by part: the first cause that applies is its refusal.
use Rattle.std.specs.Prelude.{◌≡◌, Bool, not, if◌then◌else◌, List, [], ◌∷◌, Option, Some, None, Result, Ok, Err, ⊤}
use Rattle.std.specs.List.{list_any}
use Rattle.std.specs.Str.{bytes_eq}
use Rattle.base_model.specs.Keyed.{Text}
use Rattle.so_js.specs.Tree.{members_in, member_of}
use Rattle.so_js.specs.declared.js.Js.{Js}
use Rattle.wire_io.specs.declared.fault.InputKind.{InputKind}
use Rattle.wire_io.specs.declared.fault.InputKind.TheVariants.{MissingField, UnknownField}
use Rattle.call_lines.specs.declared.error.LineError.{LineError}
use Rattle.call_lines.specs.declared.error.LineError.TheVariants.{Memory, Refused}

-- what was read, or why it is refused
abbrev pub Read : Type 0 → Type 0
Read A = Result A InputKind

-- one part, and then more with it: the first refusal counts
abbrev pub and_then : {A B : Type 0} → Read A → (A → Read B) → Read B
and_then (Ok x) more = more x
and_then (Err e) more = Err e

-- a value, or this refusal where there is none
abbrev pub or_refused : {A : Type 0} → InputKind → Option A → Read A
or_refused kind None = Err kind
or_refused kind (Some x) = Ok x

-- a value that passes a test, or else this refusal
abbrev pub accepted : {A : Type 0} → Bool → A → InputKind → Read A
accepted ok x kind = if ok then Ok x else Err kind

-- items in order
abbrev pub each : {A B : Type 0} → (A → Read B) → List A → Read (List B)
each read [] = Ok []
each read (x ∷ xs) = and_then (read x) (λ y. and_then (each read xs) (λ ys. Ok (y ∷ ys)))

abbrev pub needed_at : {A : Type 0} → (Js → Read A) → Option Js → Read A
needed_at read None = Err MissingField
needed_at read (Some js) = read js

-- the member of this key, which has to be there
abbrev pub needed : {A : Type 0} → (Js → Read A) → Text → Js → Read A
needed read key js = needed_at read (member_of key js)

abbrev pub optional_at : {A : Type 0} → (Js → Read A) → Option Js → Read (Option A)
optional_at read None = Ok None
optional_at read (Some js) = and_then (read js) (λ x. Ok (Some x))

-- the member of this key, if it is there
abbrev pub optional : {A : Type 0} → (Js → Read A) → Text → Js → Read (Option A)
optional read key js = optional_at read (member_of key js)

abbrev pub defaulted_at : {A : Type 0} → A → (Js → Read A) → Option Js → Read A
defaulted_at x read None = Ok x
defaulted_at x read (Some js) = read js

-- the member of this key, or this value where it is missing
abbrev pub defaulted : {A : Type 0} → A → (Js → Read A) → Text → Js → Read A
defaulted x read key js = defaulted_at x read (member_of key js)

-- whether the object has a member of none of these keys
abbrev pub has_other : List Text → Js → Bool
has_other keys js = list_any (λ m. not (list_any (λ k. bytes_eq k m.key) keys)) (members_in js)

-- what was read of an object, which has no member but these
abbrev pub alone : {A : Type 0} → List Text → Js → A → Read A
alone keys js x = if has_other keys js then Err UnknownField else Ok x

-- A call gave what reading gives, unless memory ran out.
abbrev pub Refuses : {A : Type 0} → LineError → Read A → Type 0
Refuses Memory read = ⊤
Refuses (Refused kind) read = read ≡ Err kind

abbrev pub Gives : {A : Type 0} → Result A LineError → Read A → Type 0
Gives (Ok x) read = read ≡ Ok x
Gives (Err e) read = Refuses e read
