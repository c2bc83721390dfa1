use Rattle.std.proofs.Common.{◌≡◌, drop}
use Rattle.store_core.specs.Engines.{without_all, AreThere}
use Rattle.store_core.proofs.aliasing.take_out.Given as goal

-- those that are left are there, and without them nothing is left that all leave
abbrev pub invariant-loop-name : goal.invariant-loop-name
invariant-loop-name l =
    (without_all l.indices (drop l.name-index l.name-items) ≡ without_all l.fn.indices l.name-items)
    × AreThere l.indices.indices (drop l.name-index l.name-items)
