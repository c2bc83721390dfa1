-- The jobs of many actors, and what their tally has when all are done.
use Rattle.std.specs.Prelude.{◌≡◌, ℕ, ◌+◌, ◌<◌, ◌||◌, if◌then◌else◌, List, [], ◌∷◌, ◌++◌, length, Vec, Result, Ok, Err, IfOk}
use Rattle.std.specs.Global.{Global}
use Rattle.std.specs.declared.alloc.AllocError.{AllocError}
use Rattle.turn_gate.specs.Passes.{GateState, PassState, IsPassOf, IsSamePass, split_off, join_of, has_pass, own_of}
use Rattle.turn_gate.specs.Lists.{Turn, entries, entries_by}
use Rattle.shared_tally.specs.Tallied.{Tallied}
use Rattle.shared_tally.specs.declared.actors.Job.{Job}

-- what an actor gives back
abbrev pub Done : Type 0
Done = Result (PassState Tallied ℕ) AllocError

-- a pass that has split off n others
abbrev pub split_times : PassState Tallied ℕ → ℕ → PassState Tallied ℕ
split_times pass n = record pass { splits = n }

-- a job for each list, with a pass that was split off when the first one had split off n
abbrev pub jobs_of : PassState Tallied ℕ → ℕ → List (Vec ℕ Global) → List Job
jobs_of pass n [] = []
jobs_of pass n (x ∷ xs) = record { pass = split_off (split_times pass n); numbers = x } ∷ jobs_of pass (n + 1) xs

-- the job's pass comes back, and its own turns added the job's numbers
abbrev pub DoesJob : Job → Done → Type 0
DoesJob job done = IfOk done (λ p. IsSamePass job.pass p × (p.own ≡ job.pass.own ++ job.numbers.items))

-- each pass that came back is of this gate
abbrev pub AreOf : GateState Tallied ℕ → List Done → Type 0
AreOf gate [] = Unit {0}
AreOf gate (r ∷ rs) = IfOk r (λ p. IsPassOf gate p) × AreOf gate rs

-- a pass was joined into another
pub record Joins (old spent new : PassState Tallied ℕ) : Type 0 where
  pub joined : new ≡ join_of old spent
  pub names : (n : ℕ) → has_pass new n ≡ has_pass old n || has_pass spent n
  pub owns : (n : ℕ) → own_of new n ≡ (if has_pass old n then own_of old n else own_of spent n)

-- all passes came back, and were joined into one, one after another
abbrev pub JoinsAll : PassState Tallied ℕ → List Done → PassState Tallied ℕ → Type 0
JoinsAll old [] new = new ≡ old
JoinsAll old (Err e ∷ rs) new = ⊥
JoinsAll old (Ok p ∷ rs) new = (next : PassState Tallied ℕ) × Joins old p next × JoinsAll next rs new

-- the turns of the pass n + 1 added the first list, those of the pass n + 2 the second, and so on
abbrev pub HasLists : List (Turn ℕ) → ℕ → List (Vec ℕ Global) → Type 0
HasLists log n [] = Unit {0}
HasLists log n (x ∷ xs) = (entries_by (n + 1) log ≡ x.items) × HasLists log (n + 1) xs

-- the numbers are those of the lists, each list's in its order, each once, and no others
abbrev pub IsTallyOf : List ℕ → List (Vec ℕ Global) → Type 0
IsTallyOf numbers lists = (log : List (Turn ℕ)) × (numbers ≡ entries log) × HasLists log 0 lists × (entries_by 0 log ≡ []) × ((n : ℕ) → length lists < n → entries_by n log ≡ [])
