use Rattle.std.proofs.Common.{◌≡◌, map, take}
use Rattle.call_model.specs.Acts.{kind_of}
use Rattle.call_words.proofs.finding.kinds_of.Given as goal

abbrev pub invariant-loop-name : goal.invariant-loop-name
invariant-loop-name l = l.all ≡ map (λ name. record { name = name; kind = kind_of l.reg name }) (take l.name-index l.name-items)
