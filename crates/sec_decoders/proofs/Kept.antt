-- Bytes that begin no escape stand for themselves.
use Rattle.std.proofs.Common.{◌≡◌, ℕ, zero, suc, ◌+◌, ◌-◌, ◌<◌, ◌≤◌, true, false, Bool, List, [], ◌∷◌, ◌++◌, length, take, drop, None, refl, sym, ap, ◌∙◌, arith, append_assoc}
use Rattle.std.specs.Bool.{◌==◌}
use Rattle.std.specs.List.{take_while, prefix_len}
use Rattle.std.specs.Char.{to_ascii_lowercase}
use Rattle.std.proofs.Math.Seq.{take-add}
use Rattle.std.proofs.lemmas.List.{drop-drop}
use Rattle.std.proofs.lemmas.Bool.Decides.{nat_tests}
use Rattle.memchr.specs.Find.{Nowhere, Passes, is_byte, is_byte2}
use Rattle.sec_decoders.specs.Pieces.{Piece, pieces, KeepsFront}
use Rattle.sec_decoders.specs.Digits.{within}
use Rattle.sec_decoders.specs.UrlUni.{percent_u, percent, url_uni}
use Rattle.sec_decoders.specs.Entities.{hex_entity, decimal_entity, name_entity, entities}
use Rattle.sec_decoders.specs.JavaScript.{backslash_u, backslash_x, js}
use Rattle.sec_decoders.specs.Css.{css}
use Rattle.sec_decoders.specs.EscapeSequences.{escaped_x, escape_sequences}
use Rattle.sec_decoders.specs.Unicode.{is_no_lead, unicode}

-- a byte outside of the class stands for itself, whatever follows
abbrev pub Keeps : (List ℕ → Piece) → (ℕ → Bool) → Type 0
Keeps piece special = (b : ℕ) (bs : List ℕ) → special b ≡ false → piece (b ∷ bs) ≡ (b ∷ [], 1)

not_true : (t : Bool) → (t ≡ true → ⊥) → t ≡ false
not_true true absent = absurd (absent refl)
not_true false absent = refl

pub keeps_one : (piece : List ℕ → Piece) (b : ℕ) (bs : List ℕ) → piece (b ∷ bs) ≡ (b ∷ [], 1) → pieces piece 0 (b ∷ bs) ≡ b ∷ pieces piece 0 bs
unfolding pieces
keeps_one piece b bs e = ap (λ (p : Piece). p.0 ++ pieces piece (p.1 - 1) bs) e

pub keeps_front : (piece : List ℕ → Piece) (special : ℕ → Bool) → Keeps piece special → (n : ℕ) (xs : List ℕ) → n ≤ length xs → Nowhere (Passes special xs) 0 n → KeepsFront piece n xs
keeps_front piece special keeps zero xs fits none = refl
keeps_front piece special keeps (suc n) [] fits none = absurd (omega arith)
keeps_front piece special keeps (suc n) (b ∷ bs) fits none =
    let here : special b ≡ false = not_true (special b) (none 0 (omega arith) (omega arith)) in
    let later = keeps_front piece special keeps n bs (omega (arith, fits)) (λ k low high. none (suc k) (omega arith) (omega (arith, high))) in
    keeps_one piece b bs (keeps b bs here) ∙ ap (λ (l : List ℕ). b ∷ l) later

percent_u_none : (b : ℕ) (bs : List ℕ) → (b == 37) ≡ false → percent_u (b ∷ bs) ≡ None
percent_u_none b [] e = refl
percent_u_none b (c ∷ []) e = refl
percent_u_none b (c ∷ d ∷ []) e = refl
percent_u_none b (c ∷ d ∷ f ∷ []) e = refl
percent_u_none b (c ∷ d ∷ f ∷ g ∷ []) e = refl
percent_u_none b (c ∷ d ∷ f ∷ g ∷ h ∷ rest) e = rw e refl

percent_none : (b : ℕ) (bs : List ℕ) → (b == 37) ≡ false → percent (b ∷ bs) ≡ None
percent_none b [] e = refl
percent_none b (c ∷ []) e = refl
percent_none b (c ∷ d ∷ rest) e = rw e refl

url_plain : Keeps url_uni (is_byte2 37 43)
url_plain b bs e =
    let none : (b == 37) ≡ false = grind (arith, nat_tests, e) in
    let no_plus : (b == 43) ≡ false = grind (arith, nat_tests, e) in
    rw (percent_u_none b bs none, percent_none b bs none, no_plus) refl

pub url_kept : (n : ℕ) (xs : List ℕ) → n ≤ length xs → Nowhere (Passes (is_byte2 37 43) xs) 0 n → KeepsFront url_uni n xs
url_kept = keeps_front url_uni (is_byte2 37 43) url_plain

hex_none : (b : ℕ) (bs : List ℕ) → (b == 38) ≡ false → hex_entity (b ∷ bs) ≡ None
hex_none b [] e = refl
hex_none b (c ∷ []) e = refl
hex_none b (c ∷ d ∷ rest) e = rw e refl

decimal_none : (b : ℕ) (bs : List ℕ) → (b == 38) ≡ false → decimal_entity (b ∷ bs) ≡ None
decimal_none b [] e = refl
decimal_none b (c ∷ rest) e = rw e refl

lower_differs : (b : ℕ) → (b == 38) ≡ false → (to_ascii_lowercase b == 38) ≡ false
lower_differs b e = grind (arith, nat_tests, e)

names_none : (b : ℕ) (bs : List ℕ) → (b == 38) ≡ false → name_entity (b ∷ bs) ≡ None
names_none b bs e = rw (lower_differs b e) refl

entities_plain : Keeps entities (is_byte 38)
entities_plain b bs e = rw (hex_none b bs e, decimal_none b bs e, names_none b bs e) refl

pub entities_kept : (n : ℕ) (xs : List ℕ) → n ≤ length xs → Nowhere (Passes (is_byte 38) xs) 0 n → KeepsFront entities n xs
entities_kept = keeps_front entities (is_byte 38) entities_plain

backslash_u_none : (b : ℕ) (bs : List ℕ) → (b == 92) ≡ false → backslash_u (b ∷ bs) ≡ None
backslash_u_none b [] e = refl
backslash_u_none b (c ∷ []) e = refl
backslash_u_none b (c ∷ d ∷ []) e = refl
backslash_u_none b (c ∷ d ∷ f ∷ []) e = refl
backslash_u_none b (c ∷ d ∷ f ∷ g ∷ []) e = refl
backslash_u_none b (c ∷ d ∷ f ∷ g ∷ h ∷ rest) e = rw e refl

backslash_x_none : (b : ℕ) (bs : List ℕ) → (b == 92) ≡ false → backslash_x (b ∷ bs) ≡ None
backslash_x_none b [] e = refl
backslash_x_none b (c ∷ []) e = refl
backslash_x_none b (c ∷ d ∷ []) e = refl
backslash_x_none b (c ∷ d ∷ f ∷ rest) e = rw e refl

js_plain : Keeps js (is_byte 92)
js_plain b [] e = refl
js_plain b (c ∷ rest) e = rw (backslash_u_none b (c ∷ rest) e, backslash_x_none b (c ∷ rest) e, e) refl

pub js_kept : (n : ℕ) (xs : List ℕ) → n ≤ length xs → Nowhere (Passes (is_byte 92) xs) 0 n → KeepsFront js n xs
js_kept = keeps_front js (is_byte 92) js_plain

escaped_x_none : (b : ℕ) (bs : List ℕ) → (b == 92) ≡ false → escaped_x (b ∷ bs) ≡ None
escaped_x_none b [] e = refl
escaped_x_none b (c ∷ []) e = refl
escaped_x_none b (c ∷ d ∷ []) e = refl
escaped_x_none b (c ∷ d ∷ f ∷ rest) e = rw e refl

sequences_plain : Keeps escape_sequences (is_byte 92)
sequences_plain b [] e = refl
sequences_plain b (c ∷ rest) e = rw (escaped_x_none b (c ∷ rest) e, e) refl

pub sequences_kept : (n : ℕ) (xs : List ℕ) → n ≤ length xs → Nowhere (Passes (is_byte 92) xs) 0 n → KeepsFront escape_sequences n xs
sequences_kept = keeps_front escape_sequences (is_byte 92) sequences_plain

css_plain : Keeps css (is_byte 92)
css_plain b [] e = rw e refl
css_plain b (c ∷ rest) e = rw e refl

pub css_kept : (n : ℕ) (xs : List ℕ) → n ≤ length xs → Nowhere (Passes (is_byte 92) xs) 0 n → KeepsFront css n xs
css_kept = keeps_front css (is_byte 92) css_plain

no_lead : (low high c : ℕ) → c < low → within low high c ≡ false
no_lead low high c small = grind (arith, nat_tests)

below : (c : ℕ) → is_no_lead c ≡ true → c < 192
below c e = grind (arith, nat_tests, e)

unicode_plain : (c : ℕ) (rest : List ℕ) → c < 192 → unicode (c ∷ rest) ≡ (c ∷ [], 1)
unicode_plain c [] small = refl
unicode_plain c (a ∷ []) small = rw (no_lead 192 223 c small) refl
unicode_plain c (a ∷ b ∷ []) small =
    let under : c < 224 = omega arith in rw (no_lead 192 223 c small, no_lead 224 239 c under) refl
unicode_plain c (a ∷ b ∷ d ∷ rest) small =
    let under : c < 224 = omega arith in
    let lower : c < 240 = omega arith in
    rw (no_lead 192 223 c small, no_lead 224 239 c under, no_lead 240 247 c lower) refl

prefix_is : (p : ℕ → Bool) (xs : List ℕ) → length (take_while p xs) ≡ prefix_len p xs
prefix_is p [] = refl
prefix_is p (x ∷ xs) =
    let test = p x in
    (elim test as (λ (t : Bool). test ≡ t → length (take_while p (x ∷ xs)) ≡ prefix_len p (x ∷ xs)) [
      | true ↦ λ e. (let step : prefix_len p (x ∷ xs) ≡ suc (prefix_len p xs) = rw e (omega arith) in rw step (ap suc (prefix_is p xs)))
      | false ↦ λ e. rw e refl
    ]) refl

while_kept : (piece : List ℕ → Piece) (plain : ℕ → Bool) → ((b : ℕ) (bs : List ℕ) → plain b ≡ true → piece (b ∷ bs) ≡ (b ∷ [], 1)) → (xs : List ℕ) → KeepsFront piece (prefix_len plain xs) xs
while_kept piece plain stands [] = refl
while_kept piece plain stands (b ∷ bs) =
    let test = plain b in
    (elim test as (λ (t : Bool). test ≡ t → KeepsFront piece (prefix_len plain (b ∷ bs)) (b ∷ bs)) [
      | true ↦ λ e. (let step : prefix_len plain (b ∷ bs) ≡ suc (prefix_len plain bs) = rw e (omega arith) in
          rw step (keeps_one piece b bs (stands b bs e) ∙ ap (λ (l : List ℕ). b ∷ l) (while_kept piece plain stands bs)))
      | false ↦ λ e. rw e refl
    ]) refl

-- the bytes up to the first that fails a test, where those that pass it stand for themselves
pub while_front : (piece : List ℕ → Piece) (plain : ℕ → Bool) → ((b : ℕ) (bs : List ℕ) → plain b ≡ true → piece (b ∷ bs) ≡ (b ∷ [], 1)) → (n : ℕ) (xs : List ℕ) → n ≡ length (take_while plain xs) → KeepsFront piece n xs
while_front piece plain stands n xs is = rw (is, prefix_is plain xs) (while_kept piece plain stands xs)

pub unicode_kept : (n : ℕ) (xs : List ℕ) → n ≡ length (take_while is_no_lead xs) → KeepsFront unicode n xs
unicode_kept = while_front unicode is_no_lead (λ b bs e. unicode_plain b bs (below b e))

-- one byte more at the front that stands for itself
pub kept_more : (piece : List ℕ → Piece) (n b : ℕ) (rest xs : List ℕ) → KeepsFront piece n xs → drop n xs ≡ b ∷ rest → piece (b ∷ rest) ≡ (b ∷ [], 1) → KeepsFront piece (n + 1) xs
kept_more piece n b rest xs kept parts stands =
    let more = pieces piece 0 rest in
    let later : pieces piece 0 (drop n xs) ≡ b ∷ more = ap (pieces piece 0) parts ∙ keeps_one piece b rest stands in
    let front : take (n + 1) xs ≡ take n xs ++ b ∷ [] = take-add n 1 xs ∙ ap (λ (l : List ℕ). take n xs ++ take 1 l) parts in
    let back : drop (n + 1) xs ≡ rest = sym (drop-drop 1 n xs) ∙ ap (drop 1) parts in
    kept ∙ ap (λ (l : List ℕ). take n xs ++ l) later ∙ sym (append_assoc (take n xs) (b ∷ []) more)
    ∙ ap (λ (l : List ℕ). l ++ more) (sym front) ∙ ap (λ (l : List ℕ). take (n + 1) xs ++ pieces piece 0 l) (sym back)
