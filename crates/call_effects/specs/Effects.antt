-- What the laws of what calls leave speak of.
use Rattle.std.specs.Prelude.{◌≡◌, true, List, [], ◌∷◌, Some}
use Rattle.base_model.specs.Keyed.{Text, at}
use Rattle.race_model.specs.Stores.{Cell, Rows}
use Rattle.race_model.specs.Journals.{Has}
use Rattle.document_model.specs.Documents.{Doc, visible, lists}
use Rattle.query_model.specs.declared.parts.Target.{Target}
use Rattle.document_model.specs.Registries.{Known, Registry, known, fits}
use Rattle.call_model.specs.declared.refuse.Refuse.{Refuse}
use Rattle.call_model.specs.Calls.{NewObject, One, Shown}
use Rattle.call_model.specs.Acts.{kind_of, raw_of, is_seen, shown}

-- each row of a known type fits its raw id
abbrev pub AllFit : {A O : Type 0} → Registry O → Rows (Doc A) → Type 0
AllFit reg rows = (raw : Text) (c : Cell (Doc _)) (t : Known _) → at raw rows ≡ Some c → known reg c.doc.type_name ≡ Some t → fits t raw c.doc ≡ true

-- every item of this raw id is refused
abbrev pub RefusedAt : {A O : Type 0} → Registry O → Text → Text → List (NewObject A) → List (One A) → Type 0
RefusedAt reg space raw [] [] = Unit {0}
RefusedAt reg space raw (o ∷ os) (one ∷ ones) = (raw_of reg space (record { type_name = o.type_name; id = o.id }) ≡ raw → (r : Refuse) × (one ≡ One.Refused r)) × RefusedAt reg space raw os ones
RefusedAt reg space raw _ _ = ⊥

-- every item is refused
abbrev pub AllRefused : {A : Type 0} → List (One A) → Type 0
AllRefused [] = Unit {0}
AllRefused (one ∷ ones) = ((r : Refuse) × (one ≡ One.Refused r)) × AllRefused ones

-- the object is that of a row of one of these types, whose document is visible in the space
pub record IsVisibleRow {A O : Type 0} (reg : Registry O) (space : Text) (types : List Text) (rows : Rows (Doc A)) (object : Shown A) : Type 0 where
  pub raw : Text
  pub row : Cell (Doc A)
  pub there : Has (raw, row) rows
  pub shows : object ≡ shown reg raw row.seq row.doc
  pub named : lists row.doc.type_name types ≡ true
  pub seen : visible (kind_of reg row.doc.type_name) space row.doc ≡ true

-- so is each object
abbrev pub AllVisible : {A O : Type 0} → Registry O → (space : Text) → (types : List Text) → Rows (Doc A) → List (Shown A) → Type 0
AllVisible reg space types rows [] = Unit {0}
AllVisible reg space types rows (o ∷ os) = IsVisibleRow reg space types rows o × AllVisible reg space types rows os

-- the object is that of the target's row, whose document has the type and is visible in the space
pub record IsSeenRow {A O : Type 0} (reg : Registry O) (space : Text) (target : Target) (rows : Rows (Doc A)) (object : Shown A) : Type 0 where
  pub row : Cell (Doc A)
  pub there : at (raw_of reg space target) rows ≡ Some row
  pub shows : object ≡ shown reg (raw_of reg space target) row.seq row.doc
  pub seen : is_seen reg space target.type_name row.doc ≡ true
