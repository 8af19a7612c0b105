-- A token at the front, and then the rest.
use Rattle.std.proofs.Common.{◌≡◌, ℕ, zero, suc, ◌-◌, ◌<◌, List, [], ◌∷◌, ◌++◌, length, take, drop, refl, sym, ap, ◌∙◌, arith, append_assoc, append-nil, true, false, Option, Some, None}
use Rattle.std.specs.Bool.{◌==◌}
use Rattle.std.proofs.lemmas.Bool.Decides.{nat_tests}
use Rattle.std.specs.Option.{option_and_then}
use Rattle.pattern_text.specs.Words.{Word}
use Rattle.pattern_text.specs.Wording.{after, at_end, prefix, token, worded, worded_from}
use Rattle.pattern_text.specs.Written.{text_of, word_of}
use Rattle.pattern_text.specs.declared.place.Place.{Place}
use Rattle.pattern_text.specs.declared.place.Place.TheVariants.{Outside, Opened, Inside}
use Rattle.pattern_text.specs.declared.token.Token.{Token}

skipped : (place : Place) (n : ℕ) (xs : List ℕ) → worded_from place n xs ≡ worded_from place 0 (drop n xs)
unfolding worded_from
skipped place zero xs = refl
skipped place (suc n) [] = refl
skipped place (suc n) (b ∷ bs) = skipped place n bs

drop_more : (n b : ℕ) (bs : List ℕ) → 0 < n → drop (n - 1) bs ≡ drop n (b ∷ bs)
drop_more zero b bs some = absurd (omega arith)
drop_more (suc n) b bs some = let e : suc n - 1 ≡ n = omega arith in ap (λ k. drop k bs) e

joined : (out text : List ℕ) (more : Option (List ℕ)) → after out (after text more) ≡ after (out ++ text) more
joined out text None = refl
joined out text (Some rest) = ap (λ (l : List ℕ). Some l) (sym (append_assoc out text rest))

pub turn : (place : Place) (xs : List ℕ) (word : Word) → 0 < length xs → Some word ≡ token place xs → 0 < word.takes
    → worded_from place 0 xs ≡ after word.text (worded_from word.next 0 (drop word.takes xs))
unfolding worded_from
turn place [] word some is moves = absurd (omega arith)
turn place (b ∷ bs) word some is moves =
    ap (option_and_then (λ word. after word.text (worded_from word.next (word.takes - 1) bs))) (sym is)
    ∙ ap (after word.text) (skipped word.next (word.takes - 1) bs ∙ ap (worded_from word.next 0) (drop_more word.takes b bs moves))

-- one turn of the loop: what is out and what is left
pub turned : (place : Place) (t : Token) (out new xs : List ℕ) (whole : Option (List ℕ))
    → after out (worded_from place 0 xs) ≡ whole → 0 < length xs → Some (word_of xs t) ≡ token place xs → 0 < t.takes
    → new ≡ out ++ text_of t.wording (take t.takes xs) → after new (worded_from t.next 0 (drop t.takes xs)) ≡ whole
turned place t out new xs whole left some is moves written =
    ap (λ (l : List ℕ). after l (worded_from t.next 0 (drop t.takes xs))) written
    ∙ sym (joined out (text_of t.wording (take t.takes xs)) (worded_from t.next 0 (drop t.takes xs)))
    ∙ ap (after out) (sym (turn place xs (word_of xs t) some is moves)) ∙ left

-- a token that is not supported
pub stopped : (place : Place) (out xs : List ℕ) (whole : Option (List ℕ))
    → after out (worded_from place 0 xs) ≡ whole → 0 < length xs → None ≡ token place xs → whole ≡ None
unfolding worded_from
stopped place out [] whole left some is = absurd (omega arith)
stopped place out (b ∷ bs) whole left some is =
    sym left
    ∙ ap (λ (w : Option Word). after out (option_and_then (λ word. after word.text (worded_from word.next (word.takes - 1) bs)) w)) (sym is)

-- at the end of the pattern, outside of classes
pub ended : (place : Place) (out xs : List ℕ) (whole : Option (List ℕ))
    → after out (worded_from place 0 xs) ≡ whole → xs ≡ [] → place ≡ Outside → whole ≡ Some out
unfolding worded_from
ended place out xs whole left none outside =
    sym left ∙ ap (λ (l : List ℕ). after out (worded_from place 0 l)) none
    ∙ ap (λ (p : Place). after out (at_end p)) outside ∙ ap (λ (l : List ℕ). Some l) (append-nil out)

-- and inside one
pub open_class : (place : Place) (out xs : List ℕ) (whole : Option (List ℕ))
    → after out (worded_from place 0 xs) ≡ whole → xs ≡ [] → (place ≡ Outside → ⊥) → whole ≡ None
unfolding worded_from
open_class Outside out xs whole left none inside = absurd (inside refl)
open_class Opened out xs whole left none inside = sym left ∙ ap (λ (l : List ℕ). after out (worded_from Opened 0 l)) none
open_class Inside out xs whole left none inside = sym left ∙ ap (λ (l : List ℕ). after out (worded_from Inside 0 l)) none

-- before the first token
pub begun : (out pattern : List ℕ) → out ≡ prefix → after out (worded_from Outside 0 pattern) ≡ worded pattern
unfolding worded
begun out pattern is = ap (λ (l : List ℕ). after l (worded_from Outside 0 pattern)) is

-- what a test of emptiness says
pub some_left : (xs : List ℕ) → (length xs == 0) ≡ false → 0 < length xs
some_left [] e = cc
some_left (b ∷ bs) e = omega arith

pub none_left : (xs : List ℕ) → (length xs == 0) ≡ true → xs ≡ []
none_left [] e = refl
none_left (b ∷ bs) e = grind (arith, nat_tests, e)
