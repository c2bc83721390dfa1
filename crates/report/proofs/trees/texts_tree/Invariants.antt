use Rattle.std.proofs.Common.{◌≡◌, ◌++◌, map}
use Rattle.std.specs.Vec.Iter.{into_iter_items}
use Rattle.so_js.specs.declared.js.Js.TheVariants.{Str}
use Rattle.report.proofs.trees.texts_tree.Given as goal

-- the trees so far, and those of the texts that are left
abbrev pub invariant-loop-text : goal.invariant-loop-text
invariant-loop-text l = l.trees ++ map Str (into_iter_items l.text-iterator) ≡ map Str l.fn.texts
