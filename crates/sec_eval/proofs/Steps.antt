-- Steps along a phase.
use Rattle.std.proofs.Common.{◌≡◌, ℕ, ◌+◌, arith}
use Rattle.sec_eval.specs.Counting.{Continues}
use Rattle.sec_meaning.specs.Phase.{Run, one_more}

pub one_step : (n m : ℕ) (a b : Run) → m ≡ n + 1 → Continues n a n b → Continues n (one_more a) m b
one_step n m a b more k = record { state = k.state; verdict = k.verdict; steps = omega (arith, more, k.steps) }
