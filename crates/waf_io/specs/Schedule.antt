-- Calls of which some are to fail.
use Rattle.std.specs.Prelude.{ℕ, List, Bool, cond, nat_eq}
use Rattle.std.specs.List.{list_any}
use Rattle.waf_io.specs.Counts.{one_more}

-- the number of calls so far, the numbers of those that fail, counted from 0, and how many have failed
pub record Failing : Type 0 where
  pub calls : ℕ
  pub failing : List ℕ
  pub faults : ℕ

-- before the first call
abbrev pub fails_at : List ℕ → Failing
fails_at failing = record { calls = 0; failing = failing; faults = 0 }

-- whether the next call is one of those that fail
abbrev pub fails_next : Failing → Bool
fails_next s = list_any (λ call. nat_eq call s.calls) s.failing

abbrev pub after_call : Failing → Failing
after_call s =
    record { calls = one_more s.calls; failing = s.failing; faults = cond (fails_next s) (one_more s.faults) s.faults }
