-- The parts of a line: its tree, its registry, its call, its raw id and its document.
use Rattle.std.specs.Prelude.{ℕ, List, [], ◌∷◌, ◌==◌, not, length, Result, Ok, Err, codes}
use Rattle.base_model.specs.Keyed.{Text}
use Rattle.call_lines.specs.Reading.{Read, and_then, accepted, needed, alone}
use Rattle.call_lines.specs.Parts.{text_in}
use Rattle.call_lines.specs.Calls.{call_in}
use Rattle.call_words.specs.declared.calls.Call.{Call}
use Rattle.document_model.specs.Documents.{Doc}
use Rattle.document_model.specs.Registries.{Registry}
use Rattle.saved_doc.specs.Reading.{doc_in}
use Rattle.saved_doc.specs.declared.error.DocError.{DocError}
use Rattle.saved_doc.specs.declared.error.DocError.TheVariants as doc
use Rattle.so_js.specs.Reading.{tree_in}
use Rattle.so_js.specs.declared.error.JsError.{JsError}
use Rattle.so_js.specs.declared.error.JsError.TheVariants as parsing
use Rattle.so_js.specs.declared.js.Js.{Js}
use Rattle.transform_ops.specs.declared.op.Op.{Op}
use Rattle.type_registry.specs.Reading.{registry_in}
use Rattle.type_registry.specs.declared.error.RegError.{RegError}
use Rattle.type_registry.specs.declared.error.RegError.TheVariants as reg
use Rattle.wire_io.specs.declared.fault.InputKind.{InputKind}
use Rattle.wire_io.specs.declared.fault.InputKind.TheVariants as kind

-- what was read, with a name for its refusals
abbrev pub renamed : {E A : Type 0} → (E → InputKind) → Result A E → Read A
renamed name (Ok x) = Ok x
renamed name (Err e) = Err (name e)

-- want of memory is no refusal of a text
abbrev pub kind_of_parsing : JsError → InputKind
kind_of_parsing parsing.Memory = kind.BadJson
kind_of_parsing parsing.BadJson = kind.BadJson
kind_of_parsing parsing.TooDeep = kind.TooDeep
kind_of_parsing parsing.Fraction = kind.Fraction

-- the tree of a line, which nests 64 deep at most
abbrev pub tree_of_line : List ℕ → Read Js
tree_of_line bytes = renamed kind_of_parsing (tree_in 64 bytes)

-- want of memory is no refusal of a tree
abbrev pub kind_of_registry : RegError → InputKind
kind_of_registry reg.Memory = kind.WrongKind
kind_of_registry reg.MissingField = kind.MissingField
kind_of_registry reg.WrongKind = kind.WrongKind
kind_of_registry reg.UnknownField = kind.UnknownField
kind_of_registry reg.BadVersion = kind.BadVersion
kind_of_registry reg.BadType = kind.BadType
kind_of_registry reg.DuplicateType = kind.DuplicateType
kind_of_registry reg.BadKind = kind.BadKind
kind_of_registry reg.UnsortedVersions = kind.UnsortedVersions
kind_of_registry reg.BadOp = kind.BadOp

-- the registry of a line
abbrev pub registry_of : Js → Read (Registry Op)
registry_of js = renamed kind_of_registry (registry_in js)

-- the call of a line: its member `call`, and no other but `line`
abbrev pub call_of : Js → Read Call
call_of js = and_then (needed call_in (codes "call") js) (λ call. alone (codes "line" ∷ codes "call" ∷ []) js call)

-- a raw id is a text that isn't empty
abbrev pub raw_in : Js → Read Text
raw_in js = and_then (text_in js) (λ raw. accepted (not (length raw == 0)) raw kind.BadId)

-- want of memory is no refusal of a tree
abbrev pub kind_of_doc : DocError → InputKind
kind_of_doc doc.Memory = kind.WrongKind
kind_of_doc doc.MissingField = kind.MissingField
kind_of_doc doc.WrongKind = kind.WrongKind
kind_of_doc doc.BadVersion = kind.BadVersion
kind_of_doc doc.BadSpace = kind.BadSpace
kind_of_doc doc.UnknownField = kind.UnknownField

-- the document that a tree stands for
abbrev pub doc_of : Js → Read (Doc Js)
doc_of js = renamed kind_of_doc (doc_in js)
