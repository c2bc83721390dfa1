-- What is printed for the fault of an input.
use Rattle.std.specs.Prelude.{[], ◌∷◌, codes}
use Rattle.base_model.specs.Keyed.{Text}
use Rattle.so_js.specs.declared.js.Js.{Js}
use Rattle.so_js.specs.declared.js.Js.TheVariants.{Str}
use Rattle.wire_io.specs.declared.fault.InputFault.{InputFault}
use Rattle.wire_io.specs.declared.fault.InputFault.TheVariants.{Usage, BadInput, Limit}
use Rattle.wire_io.specs.declared.fault.InputKind.{InputKind}
use Rattle.wire_io.specs.declared.fault.InputKind.TheVariants as kind
use Rattle.wire_io.specs.declared.fault.Which.{Which}
use Rattle.wire_io.specs.declared.fault.Which.TheVariants as which
use Rattle.report.specs.Members.{always, object_of}
use Rattle.report.specs.Answers.{number_js}

abbrev pub kind_name : InputKind → Text
kind_name kind.BadJson = codes "BadJson"
kind_name kind.TooDeep = codes "TooDeep"
kind_name kind.Fraction = codes "Fraction"
kind_name kind.NotObject = codes "NotObject"
kind_name kind.UnknownLine = codes "UnknownLine"
kind_name kind.MissingField = codes "MissingField"
kind_name kind.WrongKind = codes "WrongKind"
kind_name kind.UnknownField = codes "UnknownField"
kind_name kind.BadVersion = codes "BadVersion"
kind_name kind.BadSpace = codes "BadSpace"
kind_name kind.BadType = codes "BadType"
kind_name kind.BadId = codes "BadId"
kind_name kind.DuplicateType = codes "DuplicateType"
kind_name kind.BadKind = codes "BadKind"
kind_name kind.UnsortedVersions = codes "UnsortedVersions"
kind_name kind.BadOp = codes "BadOp"
kind_name kind.DuplicateRegistry = codes "DuplicateRegistry"
kind_name kind.DuplicateDoc = codes "DuplicateDoc"
kind_name kind.NotStated = codes "NotStated"
kind_name kind.Unplaced = codes "Unplaced"
kind_name kind.BadNumber = codes "BadNumber"
kind_name kind.NotBuilt = codes "NotBuilt"

abbrev pub which_name : Which → Text
which_name which.Line = codes "line"
which_name which.Input = codes "input"
which_name which.Instances = codes "instances"
which_name which.Clients = codes "clients"
which_name which.Objects = codes "objects"

-- a fault, with the line and the kind, or the limit that is passed
abbrev pub fault_js : InputFault → Js
fault_js Usage = object_of (always (codes "fault") (Str (codes "Usage")) ∷ [])
fault_js (BadInput at k) = object_of (
    always (codes "at") (number_js at)
    ∷ always (codes "fault") (Str (codes "BadInput"))
    ∷ always (codes "kind") (Str (kind_name k))
    ∷ [])
fault_js (Limit limit) = object_of (
    always (codes "fault") (Str (codes "Limit"))
    ∷ always (codes "which") (Str (which_name limit))
    ∷ [])
