-- A word takes at least one byte.
use Rattle.std.proofs.Common.{◌≡◌, ℕ, suc, ◌+◌, ◌<◌, ◌≤◌, Bool, true, false, cond, eqb, List, [], ◌∷◌, length, take, drop, Option, Some, None, Ok, Err, refl, subst, inl, inr, arith, length-drop}
use Rattle.std.specs.Prelude.{◌&&◌}
use Rattle.std.specs.List.{prefix_len}
use Rattle.std.proofs.lemmas.Bool.{cases_Bool}
use Rattle.sec_text.specs.declared.faults.WordFault.TheVariants as faults
use Rattle.sec_text.specs.Quotes.{is_blank, behind, quoted}
use Rattle.sec_text.specs.Words.{Read, is_apart, closed, is_plain, plain_end, plain, word_here, next_word}

-- what is left is no longer than n
abbrev LeavesUpTo : ℕ → Option (List ℕ × List ℕ) → Type 0
LeavesUpTo n None = Unit {0}
LeavesUpTo n (Some x) = length x.1 ≤ n

behind-leaves : (n b : ℕ) (o : Option (List ℕ × List ℕ)) → LeavesUpTo n o → LeavesUpTo (suc n) (behind b o)
behind-leaves n b None h = tt
behind-leaves n b (Some x) h = omega arith

up : (n : ℕ) (o : Option (List ℕ × List ℕ)) → LeavesUpTo n o → LeavesUpTo (suc n) o
up n None h = tt
up n (Some x) h = omega arith

quoted_two : (quote a b : ℕ) (rest : List ℕ) (p q : Bool) → LeavesUpTo (length rest) (quoted quote rest) → LeavesUpTo (length (b ∷ rest)) (quoted quote (b ∷ rest))
    → LeavesUpTo (length (a ∷ b ∷ rest)) (cond p (Some ([], b ∷ rest)) (cond q (behind quote (quoted quote rest)) (behind a (quoted quote (b ∷ rest)))))
quoted_two quote a b rest true q h k = omega arith
quoted_two quote a b rest false true h k = up (suc (length rest)) (behind quote (quoted quote rest)) (behind-leaves (length rest) quote (quoted quote rest) h)
quoted_two quote a b rest false false h k = behind-leaves (length (b ∷ rest)) a (quoted quote (b ∷ rest)) k

quoted_one : (quote : ℕ) (p : Bool) → LeavesUpTo 1 (cond p (Some ([], [])) None)
quoted_one quote true = omega arith
quoted_one quote false = tt

quoted-leaves : (quote : ℕ) (bytes : List ℕ) → LeavesUpTo (length bytes) (quoted quote bytes)
quoted-leaves quote [] = tt
quoted-leaves quote (a ∷ []) = quoted_one quote (eqb a quote)
quoted-leaves quote (a ∷ b ∷ rest) = quoted_two quote a b rest (eqb a quote) (eqb a 92 && eqb b quote) (quoted-leaves quote rest) (quoted-leaves quote (b ∷ rest))

-- the same of a whole answer
abbrev Leaves : ℕ → Read → Type 0
Leaves n (Ok o) = LeavesUpTo n o
Leaves n (Err e) = Unit {0}

closed-one : (n : ℕ) (p : Bool) (x : List ℕ × List ℕ) → length x.1 ≤ n → Leaves n (cond p (Ok (Some x)) (Err faults.BadWord))
closed-one n true x h = h
closed-one n false x h = tt

closed-leaves : (n : ℕ) (o : Option (List ℕ × List ℕ)) → LeavesUpTo n o → Leaves n (closed o)
closed-leaves n None h = tt
closed-leaves n (Some x) h = closed-one n (is_apart x.1) x h

plain-leaves : (b : ℕ) (rest : List ℕ) → is_blank b ≡ false → Leaves (length rest) (plain (b ∷ rest))
plain-leaves b rest h =
    let long : plain_end (b ∷ rest) ≡ 1 + plain_end rest = rw h refl in
    closed-one (length rest) (is_plain (take (plain_end (b ∷ rest)) (b ∷ rest))) (take (plain_end (b ∷ rest)) (b ∷ rest), drop (plain_end (b ∷ rest)) (b ∷ rest)) (omega (arith, length-drop (plain_end (b ∷ rest)) (b ∷ rest)))

here-two : (b : ℕ) (rest : List ℕ) (p : Bool) → is_blank b ≡ false → Leaves (length rest) (cond p (closed (quoted 34 rest)) (plain (b ∷ rest)))
here-two b rest true h = closed-leaves (length rest) (quoted 34 rest) (quoted-leaves 34 rest)
here-two b rest false h = plain-leaves b rest h

-- where a word is read at all, it is shorter by one
abbrev Shrinks : List ℕ → Read → Type 0
Shrinks line (Ok (Some x)) = length x.1 < length line
Shrinks line (Ok None) = Unit {0}
Shrinks line (Err e) = Unit {0}

shrinks-from : (n : ℕ) (line : List ℕ) (r : Read) → n < length line → Leaves n r → Shrinks line r
shrinks-from n line (Ok (Some x)) lt h = omega arith
shrinks-from n line (Ok None) lt h = tt
shrinks-from n line (Err e) lt h = tt

shrinks-longer : (b : ℕ) (line : List ℕ) (r : Read) → Shrinks line r → Shrinks (b ∷ line) r
shrinks-longer b line (Ok (Some x)) h = omega arith
shrinks-longer b line (Ok None) h = tt
shrinks-longer b line (Err e) h = tt

pub next_word-shrinks : (line : List ℕ) → Shrinks line (next_word line)
unfolding next_word
next_word-shrinks [] = tt
next_word-shrinks (b ∷ rest) =
    elim (cases_Bool (is_blank b)) [
      | inl is ↦
          let skip : prefix_len is_blank (b ∷ rest) ≡ suc (prefix_len is_blank rest) = rw is (omega arith) in
          rw skip (shrinks-longer b rest (next_word rest) (next_word-shrinks rest))
      | inr not_is ↦
          let stay : prefix_len is_blank (b ∷ rest) ≡ 0 = rw not_is refl in
          rw stay (shrinks-from (length rest) (b ∷ rest) (word_here (b ∷ rest)) (omega arith) (here-two b rest (eqb b 34) not_is))
    ]

pub next_word-shorter : (line word rest : List ℕ) → next_word line ≡ Ok (Some (word, rest)) → length rest < length line
next_word-shorter line word rest e = subst (Shrinks line) e (next_word-shrinks line)
