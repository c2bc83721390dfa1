-- What a line is.
use Rattle.std.specs.Prelude.{ℕ, List, [], ◌∷◌, ◌++◌}
use Rattle.serde_json.specs.Written.{compact_text}
use Rattle.so_js.specs.Tree.{data_of}
use Rattle.so_js.specs.declared.js.Js.{Js}

-- a tree is printed without blanks, and a line feed ends it
abbrev pub line_of : Js → List ℕ
line_of js = compact_text (data_of js) ++ 10 ∷ []
