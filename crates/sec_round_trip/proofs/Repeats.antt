-- What is taken one after the other up to the end is all that repeat gives.
use Rattle.std.proofs.Common.{◌≡◌, ℕ, zero, suc, ◌<◌, List, [], ◌∷◌, length, None, Ok, Result, ap, ◌∙◌, arith}
use Rattle.sec_text.specs.Readers.{Reader, Takes, onto, repeat, then}

pub repeat_takes : {S A E : Type 0} (reader : Reader S A E) (n : ℕ) (whole : S) (values : List A) (rest : S) → Takes reader whole values rest → reader rest ≡ Ok None → length values < n → repeat reader n whole ≡ Ok values
repeat_takes reader zero whole values rest takes end lt = absurd (omega (arith, lt))
repeat_takes reader (suc n) whole [] rest takes end lt = ap (then (repeat reader n)) (ap reader takes ∙ end)
repeat_takes {S} {A} {E} reader (suc n) whole (value ∷ values) rest takes end lt =
    ap (then (repeat reader n)) takes.1 ∙ ap (λ (r : Result (List A) E). onto value r) (repeat_takes reader n takes.0 values rest takes.2 end (omega (arith, lt)))
