-- Flags that none has set.
use Rattle.std.proofs.Common.{◌≡◌, ℕ, false, get_or, inl, inr}
use Rattle.std.proofs.Math.ListN.{replicate, get_or-eq_default}
use Rattle.std.proofs.lemmas.Bool.{cases_lt}
use Rattle.std.proofs.lemmas.List.{get_or-replicate, length-replicate}

pub all_unset : (n conn : ℕ) → get_or (replicate n false) conn false ≡ false
all_unset n conn =
    elim (cases_lt conn n) as (λ _. get_or (replicate n false) conn false ≡ false) [
      | inl less ↦ get_or-replicate n conn false false less
      | inr more ↦ get_or-eq_default (replicate n false) false (rw (length-replicate n false) more)
    ]
