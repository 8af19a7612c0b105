-- Numbers drawn one after the other.
use Rattle.std.proofs.Common.{◌≡◌, ℕ, ◌+◌, ◌*◌, ◌/◌, ◌-◌, refl, sym, ◌∙◌, ap, add-one, arith}
use Rattle.workload.specs.Draws.{after_steps, draw, stepped, turn_of}
use Rattle.workload.specs.declared.draws.TheConstants.{DIVISOR}
use Rattle.workload.specs.declared.turn.Turn.{Turn}

step : (seed n m x y : ℕ) → n + 1 ≡ m → x ≡ after_steps seed n → y ≡ stepped x → y ≡ after_steps seed m
unfolding after_steps
step seed n m x y is was next = next ∙ ap stepped was ∙ (rw (sym is, add-one) refl)

-- what six steps hold, and draw
module _ (seed before x a b c d e f : ℕ) (was : x ≡ after_steps seed before)
    (first : a ≡ stepped x) (second : b ≡ stepped a) (third : c ≡ stepped b) (fourth : d ≡ stepped c) (fifth : e ≡ stepped d) (sixth : f ≡ stepped e) where
  at_one : a ≡ after_steps seed (before + 1)
  at_one = step seed before (before + 1) x a refl was first

  at_two : b ≡ after_steps seed (before + 2)
  at_two = step seed (before + 1) (before + 2) a b (omega arith) at_one second

  at_three : c ≡ after_steps seed (before + 3)
  at_three = step seed (before + 2) (before + 3) b c (omega arith) at_two third

  at_four : d ≡ after_steps seed (before + 4)
  at_four = step seed (before + 3) (before + 4) c d (omega arith) at_three fourth

  at_five : e ≡ after_steps seed (before + 5)
  at_five = step seed (before + 4) (before + 5) d e (omega arith) at_four fifth

  pub at_six : f ≡ after_steps seed (before + 6)
  at_six = step seed (before + 5) (before + 6) e f (omega arith) at_five sixth

  pub six_drawn : (number m n o p q r : ℕ) → 6 * (number - 1) ≡ before → m ≡ a / DIVISOR → n ≡ b / DIVISOR → o ≡ c / DIVISOR → p ≡ d / DIVISOR → q ≡ e / DIVISOR → r ≡ f / DIVISOR
      → ◌≡◌ {A = Turn} (record { number = number; conn = m; method = n; query = o; back = p; status = q; moment = r }) (turn_of seed number)
  six_drawn number m n o p q r is m_is n_is o_is p_is q_is r_is =
      let start : before ≡ 6 * (number - 1) = sym is in
      let at : (k y z : ℕ) → y ≡ after_steps seed (before + k) → z ≡ y / DIVISOR → z ≡ draw seed (6 * (number - 1) + k)
      = λ k y z held drawn. drawn ∙ ap (λ (w : ℕ). w / DIVISOR) (held ∙ ap (λ (w : ℕ). after_steps seed (w + k)) start) in
      λ i. record {
        number = number;
        conn = at 1 a m at_one m_is i;
        method = at 2 b n at_two n_is i;
        query = at 3 c o at_three o_is i;
        back = at 4 d p at_four p_is i;
        status = at 5 e q at_five q_is i;
        moment = at 6 f r at_six r_is i;
      }
