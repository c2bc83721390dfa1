use Rattle.std.proofs.Common.{◌≡◌, drop}
use Rattle.std.specs.Prelude.{not}
use Rattle.std.specs.List.{list_any}
use Rattle.std.specs.Str.{bytes_eq}
use Rattle.scenario.proofs.members.is_any_other.Given as goal

-- none so far
abbrev pub invariant-loop-m : goal.invariant-loop-m
invariant-loop-m l =
    list_any (λ m. not (list_any (λ k. bytes_eq k.now m.key) l.keys)) (drop l.m-index l.m-items) ≡ list_any (λ m. not (list_any (λ k. bytes_eq k.now m.key) l.keys)) l.m-items
