use Rattle.std.proofs.Common.{◌≡◌, ◌++◌, List, ℕ, take, drop}
use Rattle.sec_collect.specs.Variables.{put}
use Rattle.sec_collect.proofs.variables.place_of.Given as goal

abbrev pub invariant-loop-place : goal.invariant-loop-place
invariant-loop-place l = (value : List ℕ) → put l.name value l.rows ≡ take l.place l.rows ++ put l.name value (drop l.place l.rows)
