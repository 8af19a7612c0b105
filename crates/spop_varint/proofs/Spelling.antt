-- The spelling of a number, as a function, spells it.
use Rattle.std.proofs.Common.{◌≡◌, inl, inr, ℕ, zero, suc, ◌+◌, ◌-◌, ◌*◌, ◌/◌, ◌%◌, ◌^◌, ◌<◌, ◌≤◌, List, [], ◌∷◌, refl, ◌∙◌, ap, arith}
use Rattle.std.proofs.lemmas.Bool.{lt-ltb, le-ltb, cases_lt}
use Rattle.spop_varint.specs.Varint.{weighed, IsTail, Spells}
use Rattle.spop_varint.specs.Writing.{tail_of, spelling}
use Rattle.spop_varint.proofs.Laws.{unique}
use Rattle.spop_varint.proofs.Tails.{first_and_tail, rest_split, tail_more}

-- a tail that stands for so much, the first of its bytes times 2 ^ e
abbrev Stands : ℕ → ℕ → List ℕ → Type 0
Stands e rest bs = IsTail bs × (weighed e bs ≡ rest * 2 ^ e)

-- one byte more, with its top bit
longer : (e rest : ℕ) (bs : List ℕ) → 128 ≤ rest → Stands (e + 7) ((rest - 128) / 128) bs → Stands e rest ((rest % 128 + 128) ∷ bs)
longer e rest bs more t = (tail_more (rest % 128 + 128) bs (omega arith) (omega arith) t.0, ap (λ (w : ℕ). (rest % 128 + 128) * 2 ^ e + w) t.1 ∙ rest_split e rest more)

alone : (e rest : ℕ) → rest < 128 → Stands e rest (rest ∷ [])
alone e rest last = (last, (let p = 2 ^ e in omega arith))

tail_stands : (most e rest : ℕ) → rest < 128 ^ (suc most) → Stands e rest (tail_of (suc most) rest)
tail_stands zero e rest small = let last : rest < 128 = omega (arith, small) in rw (lt-ltb rest 128 last) (alone e rest last)
tail_stands (suc most) e rest small = elim (cases_lt rest 128) [
  | inl last ↦ rw (lt-ltb rest 128 last) (alone e rest last)
  | inr more ↦
      let p = 128 ^ (suc most) in
      let power : 128 ^ (suc (suc most)) ≡ 128 * p = omega arith in
      let next : (rest - 128) / 128 < p = omega (arith, power, small, more) in
      rw (le-ltb rest 128 more) (longer e rest (tail_of (suc most) ((rest - 128) / 128)) more (tail_stands most (e + 7) ((rest - 128) / 128) next))
]

pub spelled : (v : ℕ) → v < 2 ^ 64 → Spells (spelling v) v
spelled v fits = elim (cases_lt v 240) [
  | inl alone ↦ rw (lt-ltb v 240 alone) (alone, refl)
  | inr first ↦
      let tail = tail_stands 8 4 ((v - 240) / 16) (omega (arith, fits, first)) in
      let is : v ≡ v % 16 + 240 + weighed 4 (tail_of 9 ((v - 240) / 16)) = omega (arith, tail.1, first) in
      rw (le-ltb v 240 first) (first_and_tail (v % 16 + 240) (tail_of 9 ((v - 240) / 16)) v (omega arith) (omega arith) tail.0 is fits)
]

fits : (bytes : List ℕ) (v : ℕ) → Spells bytes v → v < 2 ^ 64
fits [] v s = absurd s
fits (a ∷ []) v s = omega (arith, s.0, s.1)
fits (a ∷ b ∷ bs) v s = s.4

pub spelling_is : (bytes : List ℕ) (v : ℕ) → Spells bytes v → bytes ≡ spelling v
spelling_is bytes v s = unique bytes (spelling v) v s (spelled v (fits bytes v s))
