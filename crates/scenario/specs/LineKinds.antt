-- The kinds of input lines, and which of them a command reads.
use Rattle.std.specs.Prelude.{Bool, true, false, not, ◌&&◌, if◌then◌else◌, Ok, Err, codes}
use Rattle.std.specs.Str.{bytes_eq}
use Rattle.base_model.specs.Keyed.{Text}
use Rattle.call_lines.specs.Reading.{Read}
use Rattle.wire_io.specs.declared.fault.InputKind.TheVariants.{UnknownLine}
use Rattle.scenario.specs.declared.line_kind.LineKind.{LineKind}
use Rattle.scenario.specs.declared.line_kind.LineKind.TheVariants as kind

-- the kind of line that a word names
abbrev pub line_kind_of : Text → Read LineKind
line_kind_of word =
    if bytes_eq word (codes "registry") then Ok kind.Registry else
    if bytes_eq word (codes "opening") then Ok kind.Opening else
    if bytes_eq word (codes "doc") then Ok kind.Doc else
    if bytes_eq word (codes "settings") then Ok kind.Settings else
    if bytes_eq word (codes "client") then Ok kind.Client else
    if bytes_eq word (codes "call") then Ok kind.Call else
    if bytes_eq word (codes "import") then Ok kind.Import else
    if bytes_eq word (codes "resolveImport") then Ok kind.ResolveImport else
    if bytes_eq word (codes "export") then Ok kind.Export else
    if bytes_eq word (codes "event") then Ok kind.Event else
    if bytes_eq word (codes "fault") then Ok kind.Fault else
    if bytes_eq word (codes "stop") then Ok kind.Stop else
    if bytes_eq word (codes "entry") then Ok kind.Entry else
    if bytes_eq word (codes "history") then Ok kind.History else
    if bytes_eq word (codes "answer") then Ok kind.Answer else
    if bytes_eq word (codes "end") then Ok kind.End else
    if bytes_eq word (codes "legacy") then Ok kind.Legacy else
    if bytes_eq word (codes "enabled") then Ok kind.Enabled else
    Err UnknownLine

-- lines of `apply` that the program does not read yet
abbrev pub is_unbuilt : LineKind → Bool
is_unbuilt kind.Import = true
is_unbuilt kind.ResolveImport = true
is_unbuilt kind.Export = true
is_unbuilt _ = false

-- whether a line of this kind may stand in `apply`, where a registry and a call were or were not there before
abbrev pub stands_in_apply : LineKind → (registered called : Bool) → Bool
stands_in_apply kind.Registry registered called = true
stands_in_apply kind.Doc registered called = registered && not called
stands_in_apply kind.Call registered called = registered
stands_in_apply _ registered called = false
