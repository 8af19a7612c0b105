-- As many places hold a deadline as rows are parked.
use Rattle.std.proofs.Common.{◌≡◌, ℕ, zero, suc, ◌+◌, ◌<◌, Bool, true, false, cond, not, List, [], ◌∷◌, ◌++◌, length, remove, slice_get, slice_set, count_by, get_or, is_some, Option, Some, None, refl, ap, ◌∙◌, arith}
use Rattle.std.proofs.lemmas.List.Sums.{sum_by-append, sum_by-remove, sum_by-set}
use Rattle.std.proofs.lemmas.Option.{slice_get_within}
use Rattle.due_index.specs.Due as index
use Rattle.hall_core.specs.declared.row.Row.{Row}
use Rattle.hall_core.specs.declared.row.Stage.{Stage}
use Rattle.hall_core.specs.declared.row.Stage.TheVariants.{Running, Parked}
use Rattle.hall_core.specs.Deadlines.{deadline_of, until}
use Rattle.hall_core.specs.State.{is_running}

module _ {A : Type 0} (test : A → Bool) where
  one : A → ℕ
  one x = cond (test x) 1 0

  got : (xs : List A) (i : ℕ) (x : A) → slice_get xs i ≡ Some x → get_or xs i x ≡ x
  got [] i x e = refl
  got (y ∷ ys) zero x e = (let k : Some y ≡ Some x = e in cc)
  got (y ∷ ys) (suc i) x e = got ys i x e

  count_set : (xs : List A) (i : ℕ) (x y : A) → slice_get xs i ≡ Some x → count_by test (slice_set xs i y) + cond (test x) 1 0 ≡ count_by test xs + cond (test y) 1 0
  unfolding one
  count_set xs i x y e = let s = sum_by-set one xs i y x (slice_get_within xs i x e) in let h : one (get_or xs i x) ≡ one x = ap one (got xs i x e) in omega arith

  count_removed : (xs : List A) (i : ℕ) (x : A) → slice_get xs i ≡ Some x → count_by test (remove xs i) + cond (test x) 1 0 ≡ count_by test xs
  unfolding one
  count_removed xs i x e = let s = sum_by-remove one xs i x (slice_get_within xs i x e) in let h : one (get_or xs i x) ≡ one x = ap one (got xs i x e) in omega arith

  count_last : (xs : List A) (x : A) → count_by test (xs ++ x ∷ []) ≡ count_by test xs + cond (test x) 1 0
  unfolding one
  count_last xs x = let s = sum_by-append one xs (x ∷ []) in omega arith

some : Option (ℕ × ℕ) → ℕ
some o = cond (is_some o) 1 0

held_set : (held : index.Held) (p : ℕ) (o : Option (ℕ × ℕ)) → p < length held → count_by is_some (slice_set held p o) + cond (is_some (index.held_at held p)) 1 0 ≡ count_by is_some held + cond (is_some o) 1 0
unfolding some
held_set held p o lt = sum_by-set some held p o None lt

module _ {P : Type 0} where
  until_some : (n : ℕ) (stage : Stage P) → is_some (until n stage) ≡ not (is_running stage)
  until_some n Running = refl
  until_some n (Parked deadline value) = refl

  pub counts_entered : (held : index.Held) (rows : List (Row P)) (row : Row P) → is_running row.stage ≡ true → count_by is_some held ≡ count_by (λ row. not (is_running row.stage)) rows
      → count_by is_some held ≡ count_by (λ row. not (is_running row.stage)) (rows ++ row ∷ [])
  counts_entered held rows row runs same =
      let a = count_last (λ (row : Row P). not (is_running row.stage)) rows row in
      let r : cond {A = ℕ} (not (is_running row.stage)) 1 0 ≡ 0 = ap (λ b. cond {A = ℕ} (not b) 1 0) runs in omega arith

  pub counts_taken : (held : index.Held) (p : ℕ) (rows : List (Row P)) (i : ℕ) (row : Row P) → p < length held → index.held_at held p ≡ deadline_of (Some row) → slice_get rows i ≡ Some row
      → count_by is_some held ≡ count_by (λ row. not (is_running row.stage)) rows → count_by is_some (slice_set held p None) ≡ count_by (λ row. not (is_running row.stage)) (remove rows i)
  counts_taken held p rows i row lt is at same =
      let a = held_set held p None lt in let b = count_removed (λ (row : Row P). not (is_running row.stage)) rows i row at in
      let r : cond {A = ℕ} (is_some (index.held_at held p)) 1 0 ≡ cond (not (is_running row.stage)) 1 0 = ap (λ o. cond {A = ℕ} (is_some o) 1 0) is ∙ ap (λ b. cond {A = ℕ} b 1 0) (until_some row.number row.stage) in omega arith

  pub counts_parked : (held : index.Held) (p : ℕ) (due : ℕ × ℕ) (rows : List (Row P)) (i : ℕ) (row now : Row P) → p < length held → index.held_at held p ≡ None → slice_get rows i ≡ Some row → is_running row.stage ≡ true → is_running now.stage ≡ false
      → count_by is_some held ≡ count_by (λ row. not (is_running row.stage)) rows → count_by is_some (slice_set held p (Some due)) ≡ count_by (λ row. not (is_running row.stage)) (slice_set rows i now)
  counts_parked held p due rows i row now lt free at runs parks same =
      let a = held_set held p (Some due) lt in let b = count_set (λ (row : Row P). not (is_running row.stage)) rows i row now at in
      let r : cond {A = ℕ} (is_some (index.held_at held p)) 1 0 ≡ 0 = ap (λ o. cond {A = ℕ} (is_some o) 1 0) free in
      let s : cond {A = ℕ} (not (is_running row.stage)) 1 0 ≡ 0 = ap (λ b. cond {A = ℕ} (not b) 1 0) runs in
      let t : cond {A = ℕ} (not (is_running now.stage)) 1 0 ≡ 1 = ap (λ b. cond {A = ℕ} (not b) 1 0) parks in omega arith
