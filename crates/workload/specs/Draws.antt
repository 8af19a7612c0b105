-- The numbers that a seed gives.
use Rattle.std.specs.Prelude.{ℕ, zero, suc, ◌+◌, ◌-◌, ◌*◌, ◌/◌, ◌%◌, ◌^◌}
use Rattle.workload.specs.declared.draws.TheConstants.{DIVISOR, INCREMENT, MULTIPLIER}
use Rattle.workload.specs.declared.turn.TheConstants.{DRAWS}
use Rattle.workload.specs.declared.turn.Turn.{Turn}

-- a linear congruential generator over 64 bits
abbrev pub stepped : ℕ → ℕ
stepped x = (x * MULTIPLIER + INCREMENT) % 2 ^ 64

-- what it holds after so many steps
unfoldable pub after_steps : ℕ → ℕ → ℕ
after_steps seed zero = seed
after_steps seed (suc n) = stepped (after_steps seed n)

-- the n-th number, counted from 1: the high bits of what it holds then
abbrev pub draw : ℕ → ℕ → ℕ
draw seed n = after_steps seed n / DIVISOR

-- the i-th turn, counted from 1, has the six numbers after those of the turns before it
abbrev pub turn_of : ℕ → ℕ → Turn
turn_of seed i =
    let before = DRAWS * (i - 1) in
    record {
      number = i;
      conn = draw seed (before + 1);
      method = draw seed (before + 2);
      query = draw seed (before + 3);
      back = draw seed (before + 4);
      status = draw seed (before + 5);
      moment = draw seed (before + 6);
    }
