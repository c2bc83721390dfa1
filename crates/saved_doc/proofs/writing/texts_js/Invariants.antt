use Rattle.std.proofs.Common.{◌≡◌, map, take}
use Rattle.so_js.specs.declared.js.Js.TheVariants.{Str}
use Rattle.saved_doc.proofs.writing.texts_js.Given as goal

abbrev pub invariant-loop-text : goal.invariant-loop-text
invariant-loop-text l = l.all ≡ map Str (take l.text-index l.text-items)
