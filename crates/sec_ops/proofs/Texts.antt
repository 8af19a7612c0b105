-- What a test of UTF-8 says, and one byte more of an escape.
use Rattle.std.proofs.Common.{◌≡◌, ℕ, Bool, true, false, List, [], ◌∷◌, length, refl, sym, ap, ◌∙◌, arith}
use Rattle.std.specs.Prelude.{◌&&◌, not}
use Rattle.std.specs.Bool.{◌==◌}
use Rattle.std.specs.Str.{IsUtf8, is_utf8}
use Rattle.std.proofs.lemmas.Str.{IsUtf8-from_is_utf8, is_utf8-from_IsUtf8}
use Rattle.sec_ops.specs.Escapes.{has_bad_escape, two_digits}

pub text_is : (bs : List ℕ) → IsUtf8 bs → true ≡ is_utf8 bs
text_is bs h = sym (is_utf8-from_IsUtf8 bs h)

no_text_of : (bs : List ℕ) (b : Bool) → is_utf8 bs ≡ b → ¬ IsUtf8 bs → false ≡ b
no_text_of bs true e none = absurd (none (IsUtf8-from_is_utf8 bs e))
no_text_of bs false e none = refl

pub no_text : (bs : List ℕ) → ¬ IsUtf8 bs → false ≡ is_utf8 bs
no_text bs none = no_text_of bs (is_utf8 bs) refl none

pub bad_here : (text rest : List ℕ) (c : ℕ) (whole : Bool) → text ≡ c ∷ rest → (c == 37 && not (two_digits rest)) ≡ true → has_bad_escape text ≡ whole → true ≡ whole
unfolding has_bad_escape
bad_here text rest c whole is hit left =
    let step : has_bad_escape (c ∷ rest) ≡ true = rw hit refl in
    sym step ∙ ap has_bad_escape (sym is) ∙ left

pub bad_later : (text rest : List ℕ) (c : ℕ) (whole : Bool) → text ≡ c ∷ rest → (c == 37 && not (two_digits rest)) ≡ false → has_bad_escape text ≡ whole → has_bad_escape rest ≡ whole
unfolding has_bad_escape
bad_later text rest c whole is miss left =
    let step : has_bad_escape (c ∷ rest) ≡ has_bad_escape rest = rw miss refl in
    sym step ∙ ap has_bad_escape (sym is) ∙ left

pub bad_never : (text : List ℕ) (whole : Bool) → length text ≡ 0 → has_bad_escape text ≡ whole → false ≡ whole
unfolding has_bad_escape
bad_never [] whole none left = left
bad_never (c ∷ rest) whole none left = absurd (omega arith)
