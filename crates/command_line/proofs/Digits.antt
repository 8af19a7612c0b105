-- What `parse` makes of a text of digits.
use Rattle.std.proofs.Common.{◌≡◌, ◌^◌, ◌<◌, ℕ, List, [], ◌∷◌, Err, Ok, None, Option, Some, Result, Bool, cond, true, false, refl, ap, ◌∙◌, inl, inr, arith}
use Rattle.std.specs.Prelude.{◌&&◌, ◌==◌, nat_le, not}
use Rattle.std.specs.Char.{is_ascii_digit}
use Rattle.std.specs.List.{list_all}
use Rattle.std.specs.Str.{all_ascii_digits}
use Rattle.std.specs.Str.Parse.{ParsesUnsigned, digits_value}
use Rattle.std.proofs.lemmas.Bool.{cases_lt, false≢true, lt-leb}
use Rattle.std.proofs.lemmas.Str.Parse.{numerals_by_value, parse_gives, tells_all_ascii_digits}
use Rattle.command_line.specs.Numbers.{is_number, number_in}
use Rattle.command_line.specs.declared.numbers.TheConstants.{NOUGHT}

all_digits : (text : List ℕ) → all_ascii_digits text ≡ list_all is_ascii_digit text
all_digits [] = refl
all_digits (c ∷ cs) = ap (λ rest. is_ascii_digit c && rest) (all_digits cs)

unmet : (a b c : Bool) (o : Option ℕ) → c ≡ false → None ≡ cond (a && (b && c)) o None
unmet true true c o is = rw is refl
unmet true false c o is = refl
unmet false b c o is = refl

-- the form of a number is that of digits
digits_of : (text : List ℕ) → is_number text ≡ true → list_all is_ascii_digit text ≡ true
digits_of [] h = refl
digits_of (d ∷ []) h = ap (λ b. b && true) h
digits_of (d ∷ e ∷ rest) h = after (not (d == NOUGHT)) (list_all is_ascii_digit (d ∷ e ∷ rest)) h
  where
    after : (a b : Bool) → a && b ≡ true → b ≡ true
    after true b h = h
    after false b h = absurd (false≢true h)

-- a number that `parse` refuses is too large
pub refused : (low high : ℕ) (text : List ℕ) → high < 2 ^ 64 → is_number text ≡ true
    → ParsesUnsigned {E = Unit {0}} 64 10 text (Err tt) → None ≡ number_in low high text
refused low high [] fits form fails = refl
refused low high (c ∷ cs) fits form fails =
    let text = c ∷ cs in
    let digits = digits_of text form in
    let number = digits_value 10 text in
    let nothing : Result ℕ (Unit {0}) = Err tt in
    let own = numerals_by_value _ tells_all_ascii_digits in
    elim (cases_lt high number) [
      | inl large ↦ unmet (is_number text) (nat_le low number) (nat_le number high) (Some number) (lt-leb number high large)
      | inr small ↦
          let taken : nothing ≡ Ok number = parse_gives own 64 text nothing fails (all_digits text ∙ digits) (omega arith) (omega arith) in
          cc
    ]
