use Rattle.std.proofs.Common.{◌≡◌, vec_len}
use Rattle.gate_bench.proofs.lists.repeated.Given as goal

abbrev pub invariant-loop-actor : goal.invariant-loop-actor
invariant-loop-actor l = vec_len l.lists ≡ l.actor
