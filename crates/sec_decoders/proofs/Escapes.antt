-- A byte's escape at the front is read as that byte, and so are all of them.
use Rattle.std.proofs.Common.{◌≡◌, ℕ, suc, ◌+◌, ◌*◌, ◌/◌, ◌%◌, ◌<◌, false, List, [], ◌∷◌, ◌++◌, length, drop, Some, None, refl, ap, ◌∙◌, arith, length-append}
use Rattle.std.specs.Prelude.{All, ◌||◌, Option, unwrap_or}
use Rattle.std.specs.Bool.{◌==◌}
use Rattle.std.specs.List.{flat_map}
use Rattle.std.proofs.lemmas.Bool.Decides.{nat_tests}
use Rattle.std.proofs.Math.Seq.{drop-append_seam}
use Rattle.sec_decoders.specs.Pieces.{Piece, pieces}
use Rattle.sec_decoders.specs.Digits.{hex_digit, digit_of, next, within}
use Rattle.sec_decoders.specs.UrlUni.{percent_u, url_uni, narrowed}
use Rattle.sec_decoders.specs.Entities.{entities}
use Rattle.sec_decoders.specs.JavaScript.{js}
use Rattle.sec_decoders.specs.Css.{css}
use Rattle.sec_decoders.specs.EscapeSequences.{escape_sequences}
use Rattle.sec_decoders.specs.Unicode.{unicode}
use Rattle.sec_decoders.specs.Escaped.{hex_letter, percent_escape, entity_escape, x_escape, css_escape}
use Rattle.sec_decoders.proofs.Turns.{turn}

-- a piece at the front that is one byte's escape, and then the rest
piece_then : (piece : List ℕ → Piece) (escape : List ℕ) (c : ℕ) (rest : List ℕ) → 0 < length escape → piece (escape ++ rest) ≡ (c ∷ [], length escape)
    → pieces piece 0 (escape ++ rest) ≡ c ∷ pieces piece 0 rest
piece_then piece escape c rest some front =
    let long : 0 < length (escape ++ rest) = omega (arith, length-append escape rest) in
    let moves : 0 < (piece (escape ++ rest)).1 = rw front some in
    turn piece (escape ++ rest) long moves
    ∙ ap (λ (p : Piece). p.0 ++ pieces piece 0 (drop p.1 (escape ++ rest))) front
    ∙ ap (λ (l : List ℕ). c ∷ pieces piece 0 l) (drop-append_seam escape rest)

again : (piece : List ℕ → Piece) (escape : ℕ → List ℕ) (most : ℕ) → ((c : ℕ) → 0 < length (escape c))
    → ((c : ℕ) (rest : List ℕ) → c < most → piece (escape c ++ rest) ≡ (c ∷ [], length (escape c)))
    → (value : List ℕ) → All (λ c. c < most) value → pieces piece 0 (flat_map escape value) ≡ value
unfolding pieces
again piece escape most some front [] bytes = refl
again piece escape most some front (c ∷ cs) bytes =
    let small : c < most = bytes 0 0 (omega arith) in
    let later = again piece escape most some front cs (λ k d below. bytes (suc k) d (omega (arith, below))) in
    piece_then piece (escape c) c (flat_map escape cs) (some c) (front c (flat_map escape cs) small) ∙ ap (λ (l : List ℕ). c ∷ l) later

hex_back : (n : ℕ) → n < 16 → hex_digit (hex_letter n) ≡ Some n
hex_back n small = grind (arith, nat_tests)

no_u : (n : ℕ) → n < 16 → (hex_letter n == 117 || hex_letter n == 85) ≡ false
no_u n small = grind (arith, nat_tests)

not_wide : (h : ℕ) (rest : List ℕ) → (h == 117 || h == 85) ≡ false → percent_u (37 ∷ h ∷ rest) ≡ None
not_wide h [] e = refl
not_wide h (a ∷ []) e = refl
not_wide h (a ∷ b ∷ []) e = refl
not_wide h (a ∷ b ∷ c ∷ []) e = refl
not_wide h (a ∷ b ∷ c ∷ d ∷ rest) e = rw e refl

digit_is : (n : ℕ) → n < 16 → digit_of (hex_letter n) ≡ n
digit_is n small = ap (λ (o : Option ℕ). unwrap_or o 0) (hex_back n small)

two_digits : (x y : ℕ) → x < 16 → y < 16 → next 16 (next 16 0 (hex_letter x)) (hex_letter y) ≡ (0 * 16 + x) * 16 + y
two_digits x y low high =
    ap (λ (n : ℕ). (0 * 16 + n) * 16 + digit_of (hex_letter y)) (digit_is x low) ∙ ap (λ (n : ℕ). (0 * 16 + x) * 16 + n) (digit_is y high)

parts : (c : ℕ) → (0 * 16 + c / 16) * 16 + c % 16 ≡ c
parts c = omega arith

url_digits : (x y : ℕ) (rest : List ℕ) → x < 16 → y < 16 → url_uni (37 ∷ hex_letter x ∷ hex_letter y ∷ rest) ≡ (((0 * 16 + x) * 16 + y) ∷ [], 3)
url_digits x y rest low high = rw (not_wide (hex_letter x) (hex_letter y ∷ rest) (no_u x low), hex_back x low, hex_back y high) refl

url_front : (c : ℕ) (rest : List ℕ) → c < 256 → url_uni (percent_escape c ++ rest) ≡ (c ∷ [], 3)
url_front c rest small =
    url_digits (c / 16) (c % 16) rest (omega (arith, small)) (omega arith) ∙ ap (λ (n : ℕ). let p : Piece = (n ∷ [], 3) in p) (parts c)

pub url_again : (value : List ℕ) → All (λ c. c < 256) value → pieces url_uni 0 (flat_map percent_escape value) ≡ value
url_again value bytes = again url_uni percent_escape 256 (λ c. omega arith) url_front value bytes

-- two digits give the byte, also below a bound that does not touch it
byte_is : (c : ℕ) → c < 256 → ((0 * 16 + c / 16) * 16 + c % 16) % 256 ≡ c
byte_is c small = omega arith

entity_digits : (x y : ℕ) (rest : List ℕ) → x < 16 → y < 16
    → entities (38 ∷ 35 ∷ 120 ∷ hex_letter x ∷ hex_letter y ∷ 59 ∷ rest) ≡ ((((0 * 16 + x) * 16 + y) % 256) ∷ [], 6)
entity_digits x y rest low high =
    rw (hex_back x low, hex_back y high) (ap (λ (n : ℕ). let p : Piece = ((n % 256) ∷ [], 6) in p) (two_digits x y low high))

entity_front : (c : ℕ) (rest : List ℕ) → c < 256 → entities (entity_escape c ++ rest) ≡ (c ∷ [], 6)
entity_front c rest small =
    entity_digits (c / 16) (c % 16) rest (omega (arith, small)) (omega arith) ∙ ap (λ (n : ℕ). let p : Piece = (n ∷ [], 6) in p) (byte_is c small)

pub entity_again : (value : List ℕ) → All (λ c. c < 256) value → pieces entities 0 (flat_map entity_escape value) ≡ value
entity_again value bytes = again entities entity_escape 256 (λ c. omega arith) entity_front value bytes

js_digits : (x y : ℕ) (rest : List ℕ) → x < 16 → y < 16 → js (92 ∷ 120 ∷ hex_letter x ∷ hex_letter y ∷ rest) ≡ (((0 * 16 + x) * 16 + y) ∷ [], 4)
js_digits x y [] low high = rw (hex_back x low, hex_back y high) refl
js_digits x y (a ∷ []) low high = rw (hex_back x low, hex_back y high) refl
js_digits x y (a ∷ b ∷ rest) low high = rw (hex_back x low, hex_back y high) refl

js_front : (c : ℕ) (rest : List ℕ) → c < 256 → js (x_escape c ++ rest) ≡ (c ∷ [], 4)
js_front c rest small =
    js_digits (c / 16) (c % 16) rest (omega (arith, small)) (omega arith) ∙ ap (λ (n : ℕ). let p : Piece = (n ∷ [], 4) in p) (parts c)

pub js_again : (value : List ℕ) → All (λ c. c < 256) value → pieces js 0 (flat_map x_escape value) ≡ value
js_again value bytes = again js x_escape 256 (λ c. omega arith) js_front value bytes

sequence_digits : (x y : ℕ) (rest : List ℕ) → x < 16 → y < 16
    → escape_sequences (92 ∷ 120 ∷ hex_letter x ∷ hex_letter y ∷ rest) ≡ (((0 * 16 + x) * 16 + y) ∷ [], 4)
sequence_digits x y rest low high = rw (hex_back x low, hex_back y high) refl

sequence_front : (c : ℕ) (rest : List ℕ) → c < 256 → escape_sequences (x_escape c ++ rest) ≡ (c ∷ [], 4)
sequence_front c rest small =
    sequence_digits (c / 16) (c % 16) rest (omega (arith, small)) (omega arith) ∙ ap (λ (n : ℕ). let p : Piece = (n ∷ [], 4) in p) (parts c)

pub sequence_again : (value : List ℕ) → All (λ c. c < 256) value → pieces escape_sequences 0 (flat_map x_escape value) ≡ value
sequence_again value bytes = again escape_sequences x_escape 256 (λ c. omega arith) sequence_front value bytes

narrow_small : (n : ℕ) → n < 256 → narrowed n ≡ n
narrow_small n small = grind (arith, nat_tests)

css_two : (x y : ℕ) (rest : List ℕ) → x < 16 → y < 16
    → css (92 ∷ hex_letter x ∷ hex_letter y ∷ 32 ∷ rest) ≡ (narrowed ((0 * 16 + x) * 16 + y) ∷ [], 4)
css_two x y rest low high =
    rw (hex_back x low, hex_back y high) (ap (λ (n : ℕ). let p : Piece = (narrowed n ∷ [], 4) in p) (two_digits x y low high))

css_front : (c : ℕ) (rest : List ℕ) → c < 256 → css (css_escape c ++ rest) ≡ (c ∷ [], 4)
css_front c rest small =
    css_two (c / 16) (c % 16) rest (omega (arith, small)) (omega arith)
    ∙ ap (λ (n : ℕ). let p : Piece = (narrowed n ∷ [], 4) in p) (parts c)
    ∙ ap (λ (n : ℕ). let p : Piece = (n ∷ [], 4) in p) (narrow_small c small)

pub css_again : (value : List ℕ) → All (λ c. c < 256) value → pieces css 0 (flat_map css_escape value) ≡ value
css_again value bytes = again css css_escape 256 (λ c. omega arith) css_front value bytes

no_lead : (low high c : ℕ) → c < low → within low high c ≡ false
no_lead low high c small = grind (arith, nat_tests)

stays : (c : ℕ) (rest : List ℕ) → c < 192 → unicode (c ∷ rest) ≡ (c ∷ [], 1)
stays c [] small = refl
stays c (a ∷ []) small = rw (no_lead 192 223 c small) refl
stays c (a ∷ b ∷ []) small =
    let below : c < 224 = omega arith in rw (no_lead 192 223 c small, no_lead 224 239 c below) refl
stays c (a ∷ b ∷ d ∷ rest) small =
    let below : c < 224 = omega arith in
    let under : c < 240 = omega arith in
    rw (no_lead 192 223 c small, no_lead 224 239 c below, no_lead 240 247 c under) refl

pub plain_again : (value : List ℕ) → All (λ c. c < 192) value → pieces unicode 0 value ≡ value
unfolding pieces
plain_again [] bytes = refl
plain_again (c ∷ cs) bytes =
    let small : c < 192 = bytes 0 0 (omega arith) in
    let later = plain_again cs (λ k d below. bytes (suc k) d (omega (arith, below))) in
    piece_then unicode (c ∷ []) c cs (omega arith) (stays c cs small) ∙ ap (λ (l : List ℕ). c ∷ l) later
