-- What a test of a row tells of its stage.
use Rattle.std.proofs.Common.{◌≡◌, ℕ, Bool, true, false, cond, nat_eq, List, None, refl, sym, ap, ◌∙◌}
use Rattle.hall_core.specs.declared.Key.{Key}
use Rattle.hall_core.specs.declared.row.Row.{Row}
use Rattle.hall_core.specs.declared.row.Stage.TheVariants.{Running, Parked}
use Rattle.hall_core.specs.declared.row.Stage.{Stage}
use Rattle.hall_core.specs.Deadlines.{until}
use Rattle.hall_core.specs.State.{is_running, runs, waits, has_key, due_as, is_first_of, is_next}

module _ {P : Type 0} where
  pub until_running : (n : ℕ) (stage : Stage P) → is_running stage ≡ true → until n stage ≡ None
  until_running n Running e = refl
  until_running n (Parked deadline value) e = absurd (let k : false ≡ true = e in cc)

  pub runs_running : (n : ℕ) (row : Row P) → runs n row ≡ true → is_running row.stage ≡ true
  runs_running n row h = go (is_running row.stage) h
    where
      go : (b : Bool) → cond b (nat_eq row.number n) false ≡ true → b ≡ true
      go true h = refl
      go false h = h

  pub waits_parked : (key : Key) (row : Row P) → waits key row ≡ true → row.stage ≡ Running → ⊥
  waits_parked key row h e = let k : false ≡ true = sym (ap (λ s. cond (is_running s) false (has_key key row)) e) ∙ h in cc

  pub next_parked : (now : ℕ) (rows : List (Row P)) (row : Row P) → is_next now rows row ≡ true → row.stage ≡ Running → ⊥
  next_parked now rows row h e = let k : false ≡ true = sym (ap (λ s. is_first_of rows now (due_as now row.number s)) e) ∙ h in cc
