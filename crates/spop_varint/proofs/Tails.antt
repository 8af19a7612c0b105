-- One byte more of a spelling.
use Rattle.std.proofs.lemmas.Bool.{cases_eq}
use Rattle.std.proofs.Common.{inl, inr, ◌≡◌, ℕ, ◌+◌, ◌-◌, ◌*◌, ◌/◌, ◌%◌, ◌^◌, ◌<◌, ◌≤◌, List, [], ◌∷◌, ◌++◌, length, sym, ◌∙◌, ap, subst, arith, append_assoc, length-append}
use Rattle.std.proofs.lemmas.Nat.{pow-add}
use Rattle.spop_varint.specs.Varint.{weighed, IsTail, Spells}

pub power_more : (e : ℕ) → 2 ^ (e + 7) ≡ 128 * 2 ^ e
power_more e = pow-add 2 e 7 ∙ (omega arith)

-- a byte with its top bit before a tail makes a tail
pub tail_more : (b : ℕ) (bs : List ℕ) → 128 ≤ b → b < 256 → IsTail bs → IsTail (b ∷ bs)
tail_more b [] low high t = absurd t
tail_more b (c ∷ bs) low high t = (low, high, t)

-- a first byte before a tail
pub first_and_tail : (a : ℕ) (bs : List ℕ) (v : ℕ) → 240 ≤ a → a < 256 → IsTail bs → v ≡ a + weighed 4 bs → v < 2 ^ 64 → Spells (a ∷ bs) v
first_and_tail a [] v low high t is fits = absurd t
first_and_tail a (b ∷ bs) v low high t is fits = (low, high, t, is, fits)

-- what is left is the low byte and 128 times the rest
pub rest_split : (e rest : ℕ) → 128 ≤ rest → (rest % 128 + 128) * 2 ^ e + (rest - 128) / 128 * 2 ^ (e + 7) ≡ rest * 2 ^ e
rest_split e rest low =
    let parts : rest % 128 + 128 + (rest - 128) / 128 * 128 ≡ rest = omega arith in
    ap (λ (p : ℕ). (rest % 128 + 128) * 2 ^ e + (rest - 128) / 128 * p) (power_more e)
    ∙ (let P = 2 ^ e in let open_ : (rest % 128 + 128) * P + (rest - 128) / 128 * (128 * P) ≡ (rest % 128 + 128 + (rest - 128) / 128 * 128) * P = omega arith in open_)
    ∙ ap (λ (r : ℕ). r * 2 ^ e) parts

-- a spelling has ten bytes at most
pub eight : (n rest value : ℕ) → n ≤ 9 → 128 ≤ rest → rest * 2 ^ (7 * n - 3) ≤ value → value < 2 ^ 64 → n ≤ 8
eight n rest value most low room fits = elim (cases_eq n 9) [
  | inl nine ↦ absurd (let at_nine : rest * 2 ^ (7 * 9 - 3) ≤ value = subst (λ (k : ℕ). rest * 2 ^ (7 * k - 3) ≤ value) nine room in omega arith)
  | inr less ↦ omega arith
]

-- one byte more, with its top bit: whatever stands for the rest of the rest completes the number
module _ (out more : List ℕ) (rest value : ℕ) (is : more ≡ out ++ (rest % 128 + 128) ∷ []) (low : 128 ≤ rest) (some : 1 ≤ length out) where
  place : 7 * length more - 3 ≡ (7 * length out - 3) + 7
  place = let size : length more ≡ length out + 1 = ap length is ∙ length-append out ((rest % 128 + 128) ∷ []) in omega arith

  pub spell_more : ((bs : List ℕ) → IsTail bs → weighed (7 * length out - 3) bs ≡ rest * 2 ^ (7 * length out - 3) → Spells (out ++ bs) value)
      → (bs : List ℕ) → IsTail bs → weighed (7 * length more - 3) bs ≡ (rest - 128) / 128 * 2 ^ (7 * length more - 3) → Spells (more ++ bs) value
  spell_more completes bs t sum =
      let e = 7 * length out - 3 in
      let b = rest % 128 + 128 in
      let at_place : weighed (e + 7) bs ≡ (rest - 128) / 128 * 2 ^ (e + 7) = subst (λ (k : ℕ). weighed k bs ≡ (rest - 128) / 128 * 2 ^ k) place sum in
      let joined : more ++ bs ≡ out ++ (b ∷ bs) = ap (λ (l : List ℕ). l ++ bs) is ∙ append_assoc out (b ∷ []) bs in
      let whole : weighed e (b ∷ bs) ≡ rest * 2 ^ e = ap (λ (w : ℕ). b * 2 ^ e + w) at_place ∙ rest_split e rest low in
      subst (λ (l : List ℕ). Spells l value) (sym joined) (completes (b ∷ bs) (tail_more b bs (omega arith) (omega arith) t) whole)

  pub room_more : rest * 2 ^ (7 * length out - 3) ≤ value → (rest - 128) / 128 * 2 ^ (7 * length more - 3) ≤ value
  room_more room = subst (λ (k : ℕ). (rest - 128) / 128 * 2 ^ k ≤ value) (sym place) (omega (arith, rest_split (7 * length out - 3) rest low, room))
