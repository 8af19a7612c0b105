-- The loop over the pieces of a list of targets.
use Rattle.std.proofs.Common.{ℕ, suc, ◌<◌, List, length, Option, Some, None, Result, ap, arith}
use Rattle.std.specs.Prelude.{IfSome}
use Rattle.sec_ast.specs.declared.Target.{Target}
use Rattle.sec_parts.specs.declared.faults.Bad.{Bad}
use Rattle.sec_parts.specs.declared.faults.Refusal.{Refusal}
use Rattle.sec_parts.specs.declared.faults.Refusal.TheVariants as refusals
use Rattle.sec_parts.specs.Results.{Refuses}
use Rattle.sec_parts.specs.Targets.{one_target}

-- how much is left to do
abbrev pub left : Option (List ℕ) → ℕ
left None = 0
left (Some text) = suc (length text)

pub left-shorter : (here : List ℕ) (after : Option (List ℕ)) → IfSome after (λ a. length a < length here) → left after < left (Some here)
left-shorter here None h = omega arith
left-shorter here (Some a) h = omega arith

pub one-refuses : (e : Refusal) (r : Result (Target × Option (List ℕ)) Bad) → Refuses e r → Refuses e (one_target r)
one-refuses refusals.NoMemory r h = tt
one-refuses (refusals.Bad bad) r h = ap one_target h
