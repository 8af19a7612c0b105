-- Numbers are read back from their decimal digits.
use Rattle.std.proofs.Common.{◌≡◌, ℕ, zero, suc, ◌+◌, ◌-◌, ◌*◌, ◌/◌, ◌%◌, ◌^◌, ◌<◌, ◌≤◌, Bool, true, false, List, [], ◌∷◌, ◌++◌, length, get_or, take, Some, refl, ap, ◌∙◌, arith, decimal, inl, inr}
use Rattle.std.specs.Prelude.{not, ◌&&◌, ◌==◌, nat_le, nat_lt}
use Rattle.std.specs.List.{list_all, list_any, suffix_len}
use Rattle.std.proofs.lemmas.Bool.{and_parts, cases_lt, false≢true, le-leb, leb-true, lt-ltb, ne_eqb}
use Rattle.std.proofs.lemmas.Fmt.{decimal_by_steps, length-decimal-le}
use Rattle.std.proofs.lemmas.List.{take_all}
use Rattle.std.proofs.lemmas.List.Sums.{fold-append, suffix_len_is}
use Rattle.sec_text.specs.Quotes.{is_blank}
use Rattle.sec_parts.specs.Numbers.{is_digit, is_number, number_in, value_of}
use Rattle.sec_parts.specs.Texts.{ends_open, trim_end}
use Rattle.sec_round_trip.specs.Actions.{IsPlainValue, begins_unquoted, is_comma}

abbrev begins_high : List ℕ → Bool
begins_high [] = false
begins_high (b ∷ ds) = not (b == 48)

-- what the digits of a number are
pub record Digits (n : ℕ) (ds : List ℕ) : Type 0 where
  pub value : value_of ds ≡ n
  pub digits : list_all is_digit ds ≡ true
  pub short : n < 10 → length ds ≡ 1
  pub first : 0 < n → begins_high ds ≡ true

digit_is : (d : ℕ) → d < 10 → is_digit (48 + d) ≡ true
digit_is d small = rw (le-leb 48 (48 + d) (omega arith), le-leb (48 + d) 57 (omega (arith, small))) refl

one_digit : (d : ℕ) → d < 10 → list_all is_digit ((48 + d) ∷ []) ≡ true
one_digit d small = rw (digit_is d small) refl

high_is : (d : ℕ) → 0 < d → not (48 + d == 48) ≡ true
high_is d some = ap not (ne_eqb (48 + d) 48 (λ e. omega (arith, some, e)))

one : (n : ℕ) → n < 10 → Digits n ((48 + n) ∷ [])
one n small = record {
  value = omega arith;
  digits = one_digit n small;
  short = λ a. refl;
  first = high_is n;
}

all_push : (ds more : List ℕ) → list_all is_digit ds ≡ true → list_all is_digit more ≡ true → list_all is_digit (ds ++ more) ≡ true
all_push [] more h k = k
all_push (b ∷ ds) more h k =
    let both = and_parts (is_digit b) (list_all is_digit ds) h in rw both.0 (all_push ds more both.1 k)

high_push : (ds more : List ℕ) → begins_high ds ≡ true → begins_high (ds ++ more) ≡ true
high_push [] more h = absurd (false≢true h)
high_push (b ∷ ds) more h = h

value_push : (ds : List ℕ) (d : ℕ) → value_of (ds ++ (48 + d) ∷ []) ≡ value_of ds * 10 + (48 + d - 48)
value_push ds d = fold-append (λ n b. n * 10 + (b - 48)) 0 ds ((48 + d) ∷ [])

last_small : (n : ℕ) → n % 10 < 10
last_small n = omega arith

more : (n : ℕ) (ds : List ℕ) → 10 ≤ n → Digits (n / 10) ds → Digits n (ds ++ (48 + n % 10) ∷ [])
more n ds large before =
    let value = value_push ds (n % 10) in
    let was = before.value in
    record {
      value = omega (arith, value, was);
      digits = all_push ds ((48 + n % 10) ∷ []) before.digits (one_digit (n % 10) (last_small n));
      short = λ a. absurd (omega (arith, a, large));
      first = λ a. high_push ds ((48 + n % 10) ∷ []) (before.first (omega (arith, large)));
    }

pub digits_are : (n : ℕ) → n < 2 ^ 64 → Digits n (decimal n)
digits_are n small = decimal_by_steps Digits one more n small

three : (p q r : Bool) → p ≡ true → q ≡ true → r ≡ true → (p && q && r) ≡ true
three p q r a b c = rw (a, b, c) refl

number_is : (n : ℕ) (ds : List ℕ) → Digits n ds → length ds ≤ 10 → is_number ds ≡ true
number_is n [] w few = let none = w.value in let one = w.short (omega (arith, none)) in absurd (omega (arith, one))
number_is n (b ∷ []) w few = (and_parts (is_digit b) true w.digits).0
number_is n (b ∷ c ∷ rest) w few =
    elim (cases_lt n 10) [
      | inl small ↦ let one = w.short small in absurd (omega (arith, one))
      | inr large ↦
          three (not (b == 48)) (list_all is_digit (b ∷ c ∷ rest)) (nat_lt (length (c ∷ rest)) 10)
          (w.first (omega (arith, large))) w.digits (lt-ltb (length (c ∷ rest)) 10 (omega (arith, few)))
    ]

number_of : (low high n : ℕ) (ds : List ℕ) → is_number ds ≡ true → value_of ds ≡ n → low ≤ n → n ≤ high → number_in low high ds ≡ Some n
number_of low high n ds number value least most = rw (number, value, le-leb low n least, le-leb n high most) refl

pub number_again : (low high n : ℕ) → low ≤ n → n ≤ high → high < 2 ^ 32 → number_in low high (decimal n) ≡ Some n
number_again low high n least most small =
    let written : Digits n (decimal n) = digits_are n (omega (arith, most, small)) in
    let few : length (decimal n) ≤ 10 = length-decimal-le 10 n (omega arith) (omega (arith, most, small)) (omega (arith, most, small)) in
    number_of low high n (decimal n) (number_is n (decimal n) written few) written.value least most

-- ---- digits stand for themselves, without quotes

digits_some : (n : ℕ) (ds : List ℕ) → Digits n ds → 0 < length ds
digits_some n [] w = let none = w.value in let one = w.short (omega (arith, none)) in absurd (omega (arith, one))
digits_some n (b ∷ ds) w = omega arith

digit_other : (b c : ℕ) → is_digit b ≡ true → c < 48 → (b == c) ≡ false
digit_other b c is low = let least : 48 ≤ b = leb-true 48 b (and_parts (nat_le 48 b) (nat_le b 57) is).0 in ne_eqb b c (λ e. omega (arith, least, low, e))

digit_below : (b c : ℕ) → is_digit b ≡ true → 57 < c → (b == c) ≡ false
digit_below b c is high = let most : b ≤ 57 = leb-true b 57 (and_parts (nat_le 48 b) (nat_le b 57) is).1 in ne_eqb b c (λ e. omega (arith, most, high, e))

digit_no_blank : (b : ℕ) → is_digit b ≡ true → is_blank b ≡ false
digit_no_blank b is = rw (digit_other b 32 is (omega arith), digit_other b 9 is (omega arith)) refl

all_none : (p : ℕ → Bool) → ((b : ℕ) → is_digit b ≡ true → p b ≡ false) → (ds : List ℕ) → list_all is_digit ds ≡ true → list_any p ds ≡ false
all_none p other [] h = refl
all_none p other (b ∷ ds) h =
    let both = and_parts (is_digit b) (list_all is_digit ds) h in rw (other b both.0) (all_none p other ds both.1)

digit_at : (ds : List ℕ) (k : ℕ) → list_all is_digit ds ≡ true → k < length ds → is_digit (get_or ds k 0) ≡ true
digit_at [] k h lt = absurd (omega (arith, lt))
digit_at (b ∷ ds) zero h lt = (and_parts (is_digit b) (list_all is_digit ds) h).0
digit_at (b ∷ ds) (suc k) h lt = digit_at ds k (and_parts (is_digit b) (list_all is_digit ds) h).1 (omega (arith, lt))

first_plain : (ds : List ℕ) → 0 < length ds → list_all is_digit ds ≡ true → begins_unquoted ds ≡ true
first_plain [] some h = absurd (omega (arith, some))
first_plain (b ∷ ds) some h =
    let is = (and_parts (is_digit b) (list_all is_digit ds) h).0 in
    rw (digit_no_blank b is, digit_other b 39 is (omega arith)) refl

untrimmed : (ds : List ℕ) → 0 < length ds → list_all is_digit ds ≡ true → trim_end ds ≡ ds
untrimmed ds some h =
    let whole : suffix_len is_blank ds ≡ length ds - length ds = suffix_len_is is_blank ds (length ds) 0 (omega arith) (λ k low high. absurd (omega (arith, low, high)))
    (λ more. digit_no_blank (get_or ds (length ds - 1) 0) (digit_at ds (length ds - 1) h (omega (arith, some)))) in
    let none : suffix_len is_blank ds ≡ 0 = omega (arith, whole) in
    ap (λ n. take (length ds - n) ds) none ∙ take_all (length ds - 0) ds (omega arith)

last_closed : (ds : List ℕ) → 0 < length ds → list_all is_digit ds ≡ true → ends_open ds ≡ false
last_closed ds some h = digit_below (get_or ds (length ds - 1) 0) 92 (digit_at ds (length ds - 1) h (omega (arith, some))) (omega arith)

pub decimal_plain : (n : ℕ) → n < 2 ^ 64 → IsPlainValue (decimal n)
decimal_plain n small =
    let w = digits_are n small in
    let some = digits_some n (decimal n) w in
    record {
      commas = all_none is_comma (λ b is. digit_other b 44 is (omega arith)) (decimal n) w.digits;
      begins = first_plain (decimal n) some w.digits;
      trimmed = untrimmed (decimal n) some w.digits;
      ends = last_closed (decimal n) some w.digits;
    }

pub no_dash : (n : ℕ) → n < 2 ^ 64 → list_any (λ b. b == 45) (decimal n) ≡ false
no_dash n small = all_none (λ b. b == 45) (λ b is. digit_other b 45 is (omega arith)) (decimal n) (digits_are n small).digits
