-- A directive's name is the first word of its line.
use Rattle.std.proofs.Common.{◌≡◌, ℕ, suc, Bool, true, false, List, [], ◌∷◌, ◌++◌, length, take, drop, Some, Ok, refl, sym, ap, ◌∙◌, arith}
use Rattle.std.specs.Prelude.{not, ◌==◌}
use Rattle.std.specs.List.{AllByRecursion, list_any, prefix_len}
use Rattle.std.proofs.lemmas.Bool.{and_parts, false≢true, or_parts}
use Rattle.std.proofs.Math.Seq.{drop-append_seam, take-append_seam}
use Rattle.sec_text.specs.Quotes.{is_blank}
use Rattle.sec_text.specs.Words.{is_apart, is_plain, next_word, plain, plain_end, word_here, words}
use Rattle.sec_text.specs.Written.{ends_with_backslash, spread}
use Rattle.sec_text.proofs.WordLaws.{words_only}
use Rattle.sec_text.proofs.WrittenLaws.{spread_again}
use Rattle.sec_round_trip.specs.Lines.{has_no_blank, is_name}

pub no_prefix : {X : Type 0} → (p : X → Bool) (x : X) (xs : List X) → p x ≡ false → prefix_len p (x ∷ xs) ≡ 0
no_prefix p x xs h = rw h refl

pub more_prefix : {X : Type 0} → (p : X → Bool) (x : X) (xs : List X) → p x ≡ true → prefix_len p (x ∷ xs) ≡ suc (prefix_len p xs)
more_prefix p x xs h = rw h (omega arith)

pub not_false : (p : Bool) → not p ≡ true → p ≡ false
not_false false h = refl
not_false true h = sym h

name_end : (name rest : List ℕ) → has_no_blank name ≡ true → is_apart rest ≡ true → plain_end (name ++ rest) ≡ length name
name_end [] [] whole apart = refl
name_end [] (b ∷ rest) whole apart = no_prefix (λ c. not (is_blank c)) b rest (ap not apart)
name_end (b ∷ name) rest whole apart =
    let parts = and_parts (not (is_blank b)) (has_no_blank name) whole in
    more_prefix (λ c. not (is_blank c)) b (name ++ rest) parts.0 ∙ ap suc (name_end name rest parts.1 apart)

plain_is : (bytes word rest : List ℕ) → take (plain_end bytes) bytes ≡ word → drop (plain_end bytes) bytes ≡ rest → is_plain word ≡ true → plain bytes ≡ Ok (Some (word, rest))
plain_is bytes word rest front behind h = rw (front, behind, h) refl

unquoted : (b : ℕ) (rest : List ℕ) → (b == 34) ≡ false → word_here (b ∷ rest) ≡ plain (b ∷ rest)
unquoted b rest h = rw h refl

next_name : (b : ℕ) (name rest : List ℕ) → is_name (b ∷ name) ≡ true → is_apart rest ≡ true → next_word (b ∷ (name ++ rest)) ≡ Ok (Some (b ∷ name, rest))
unfolding next_word
next_name b name rest h apart =
    let parts = and_parts (has_no_blank (b ∷ name)) (is_plain (b ∷ name)) h in
    let blank = not_false (is_blank b) (and_parts (not (is_blank b)) (has_no_blank name) parts.0).0 in
    let quotes = not_false (list_any (λ c. c == 34) (b ∷ name)) (and_parts (not (list_any (λ c. c == 34) (b ∷ name))) _ parts.1).0 in
    let quote = (or_parts (b == 34) (list_any (λ c. c == 34) name) quotes).0 in
    let whole : List ℕ = b ∷ (name ++ rest) in
    let end : plain_end whole ≡ length (b ∷ name) = name_end (b ∷ name) rest parts.0 apart in
    let front : take (plain_end whole) whole ≡ b ∷ name = ap (λ n. take n whole) end ∙ take-append_seam (b ∷ name) rest in
    let behind : drop (plain_end whole) whole ≡ rest = ap (λ n. drop n whole) end ∙ drop-append_seam (b ∷ name) rest in
    ap (λ n. word_here (drop n whole)) (no_prefix is_blank b (name ++ rest) blank) ∙ (unquoted b (name ++ rest) quote ∙ plain_is whole (b ∷ name) rest front behind parts.1)

apart : (words : List (List ℕ)) → is_apart (spread words) ≡ true
apart [] = refl
apart (word ∷ words) = refl

pub line_again : (name : List ℕ) (given : List (List ℕ)) → is_name name ≡ true → AllByRecursion (λ word. ends_with_backslash word ≡ false) given → words (name ++ spread given) ≡ Ok (name ∷ given)
line_again [] given h all = absurd (false≢true h)
line_again (b ∷ name) given h all =
    let again = spread_again given all in
    sym (words_only (b ∷ (name ++ spread given)) (Ok ((b ∷ name) ∷ given)) (again.0, (spread given, next_name b name (spread given) h (apart given), again.1), again.2))
