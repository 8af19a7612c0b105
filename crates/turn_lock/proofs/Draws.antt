-- For the tests: how often a number stands in what histories answer.
use Rattle.std.proofs.Common.{◌≡◌, ℕ, ◌+◌, List, [], ◌∷◌, ◌++◌, Option, Some, None, ap, ⊎_elim, arith, tests}
use Rattle.turn_lock.specs.declared.history.Entry.{Entry}
use Rattle.turn_lock.specs.History.{entry, Interleaves}
use Rattle.turn_lock.specs.Numbers.{Answers, moved, LegalDraws, next_after, is_number, times, drawn, once_below}

pub times_last : (x : ℕ) (ns : List ℕ) (n : ℕ) → times x (ns ++ n ∷ []) ≡ times x ns + is_number x (Some n)
times_last x [] n = omega arith
times_last x (m ∷ ms) n = let h = times_last x ms n in omega arith

one_more : (x s : ℕ) (r : Option ℕ) → Answers s r → is_number x r + once_below x s ≡ once_below x (moved s r)
one_more x s None h = omega arith
one_more x s (Some n) h = let e : n ≡ s = h.0 in grind (arith, tests)

pub none_below : (x n : ℕ) → n ≡ 0 → once_below x n ≡ 0
none_below x n e = grind (arith, tests)

module _ {C : Type 0} where
  pub drawn_last : (x : ℕ) (es : List (Entry C (Option ℕ))) (e : Entry C (Option ℕ)) → drawn x (es ++ e ∷ []) ≡ drawn x es + is_number x e.reply
  drawn_last x [] e = omega arith
  drawn_last x (d ∷ ds) e = let h = drawn_last x ds e in omega arith

  pub drawn_interleaves : (x : ℕ) (xs ys zs : List (Entry C (Option ℕ))) → Interleaves xs ys zs → drawn x zs ≡ drawn x xs + drawn x ys
  drawn_interleaves x xs ys [] h = let p = ap (drawn x) h.0 in let q = ap (drawn x) h.1 in omega arith
  drawn_interleaves x xs ys (z ∷ zs) h = ⊎_elim
      (λ a. let p = ap (drawn x) a.1 in let q = drawn_interleaves x a.0 ys zs a.2 in omega arith)
      (λ a. let p = ap (drawn x) a.1 in let q = drawn_interleaves x xs a.0 zs a.2 in omega arith) h

  -- the numbers that a history answers are those from its first state to the one it leaves, each once
  pub drawn_once : (x s : ℕ) (log : List (Entry C (Option ℕ))) → LegalDraws s log → drawn x log + once_below x s ≡ once_below x (next_after s log)
  drawn_once x s [] h = omega arith
  drawn_once x s (e ∷ es) h = let q = drawn_once x (moved s e.reply) es h.2 in let p = one_more x s e.reply h.1 in omega arith

  -- one call more, and its number, if it answered one
  pub draw_more : (x : ℕ) (ns ns' : List ℕ) (n : ℕ) (own own' : List (Entry C (Option ℕ))) (c : C) (r : Option ℕ) → ns' ≡ ns ++ n ∷ [] → own' ≡ own ++ entry c r ∷ [] → r ≡ Some n → times x ns ≡ drawn x own → times x ns' ≡ drawn x own'
  draw_more x ns ns' n own own' c r a b is h = let p = ap (times x) a in let q = times_last x ns n in let s = ap (drawn x) b in let t = drawn_last x own (entry c r) in let u = ap (is_number x) is in omega arith

  pub draw_none : (x : ℕ) (ns : List ℕ) (own own' : List (Entry C (Option ℕ))) (c : C) (r : Option ℕ) → own' ≡ own ++ entry c r ∷ [] → r ≡ None → times x ns ≡ drawn x own → times x ns ≡ drawn x own'
  draw_none x ns own own' c r b is h = let s = ap (drawn x) b in let t = drawn_last x own (entry c r) in let u = ap (is_number x) is in omega arith
