-- The text of a list of actions is read piece by piece.
use Rattle.std.proofs.Common.{◌≡◌, ℕ, zero, suc, ◌≤◌, Bool, true, false, List, [], ◌∷◌, ◌++◌, length, take, drop, Option, Some, None, Result, Ok, Err, refl, sym, ap, ap₂, ◌∙◌, append-nil, length-append, arith, subst}
use Rattle.std.specs.Prelude.{not, ◌||◌, ◌==◌}
use Rattle.std.specs.List.{join_with_byte, list_any}
use Rattle.std.proofs.lemmas.Bool.{and_parts, eqb-true, false≢true}
use Rattle.sec_ast.specs.PrintTexts.{escaped}
use Rattle.sec_text.specs.Quotes.{is_blank, quoted}
use Rattle.sec_text.specs.Written.{ends_with_backslash}
use Rattle.sec_parts.specs.declared.acts.Acts.{Acts}
use Rattle.sec_parts.specs.declared.faults.Bad.{Bad}
use Rattle.sec_parts.specs.declared.kinds.Stand.{Stand}
use Rattle.sec_parts.specs.Acts.{actions_in, no_acts, pieces_in, with_piece}
use Rattle.sec_parts.specs.Pieces.{behind_name, closed, ended, piece_at, plain, valued}
use Rattle.sec_parts.specs.Results.{◌>>=◌}
use Rattle.sec_parts.specs.Texts.{behind_first, skip_blanks, to_byte, to_either}
use Rattle.sec_round_trip.specs.Actions.{IsPlainValue, begins_unquoted, has_pieces, is_comma}
use Rattle.sec_round_trip.proofs.Names.{no_prefix, not_false}
use Rattle.sec_round_trip.proofs.Places.{drop_to, stops, take_to, to_stop}

-- ---- the three forms of a piece

abbrev pub ends_label : ℕ → Bool
ends_label b = (b == 44) || (b == 58)

no_comma : (rest : List ℕ) → stops is_comma rest ≡ true → to_byte 44 rest ≡ 0
no_comma [] is = refl
no_comma (b ∷ rest) is = rw is refl

stops_label : (rest : List ℕ) → stops is_comma rest ≡ true → stops ends_label rest ≡ true
stops_label [] is = refl
stops_label (b ∷ rest) is = rw is refl

pub alone_is : (name rest : List ℕ) → list_any ends_label name ≡ false → stops is_comma rest ≡ true → piece_at (name ++ rest) ≡ ended (name ++ rest) name None rest
unfolding piece_at
alone_is name rest none end =
    let text : List ℕ = name ++ rest in
    let long : to_either 44 58 text ≡ length name = to_stop ends_label name rest none (stops_label rest end) in
    let front : take (to_either 44 58 text) text ≡ name = take_to (to_either 44 58 text) name rest long in
    let behind : drop (to_either 44 58 text) text ≡ rest = drop_to (to_either 44 58 text) name rest long in
    ap₂ (λ (l m : List ℕ). behind_name text l m) front behind ∙ no_value text name rest end
  where
    no_value : (text name rest : List ℕ) → stops is_comma rest ≡ true → behind_name text name rest ≡ ended text name None rest
    no_value text name [] end = refl
    no_value text name (b ∷ rest) end = subst (λ b. behind_name text name (b ∷ rest) ≡ ended text name None (b ∷ rest)) (sym (eqb-true b 44 end)) refl

label_is : (name rest : List ℕ) → list_any ends_label name ≡ false → piece_at (name ++ 58 ∷ rest) ≡ valued (name ++ 58 ∷ rest) name (skip_blanks rest)
unfolding piece_at
label_is name rest none =
    let text : List ℕ = name ++ 58 ∷ rest in
    let long : to_either 44 58 text ≡ length name = to_stop ends_label name (58 ∷ rest) none refl in
    let front : take (to_either 44 58 text) text ≡ name = take_to (to_either 44 58 text) name (58 ∷ rest) long in
    let behind : drop (to_either 44 58 text) text ≡ 58 ∷ rest = drop_to (to_either 44 58 text) name (58 ∷ rest) long in
    ap₂ (λ (l m : List ℕ). behind_name text l m) front behind

begun : (text name value rest : List ℕ) → begins_unquoted value ≡ true → valued text name (skip_blanks (value ++ rest)) ≡ plain text name (value ++ rest)
begun text name [] rest h = absurd (false≢true h)
begun text name (b ∷ value) rest h =
    let both = and_parts (not (is_blank b)) (not (b == 39)) h in
    ap (λ n. valued text name (drop n (b ∷ (value ++ rest)))) (no_prefix is_blank b (value ++ rest) (not_false (is_blank b) both.0))
    ∙ rw (not_false (b == 39) both.1) refl

pub plain_is : (name value rest : List ℕ) → list_any ends_label name ≡ false → IsPlainValue value → stops is_comma rest ≡ true
    → piece_at (name ++ 58 ∷ (value ++ rest)) ≡ ended (name ++ 58 ∷ (value ++ rest)) name (Some value) rest
plain_is name value rest none is end =
    let text : List ℕ = name ++ 58 ∷ (value ++ rest) in
    let here : List ℕ = value ++ rest in
    let long : to_byte 44 here ≡ length value = to_stop is_comma value rest is.commas end in
    let front : take (to_byte 44 here) here ≡ value = take_to (to_byte 44 here) value rest long in
    let behind : drop (to_byte 44 here) here ≡ rest = drop_to (to_byte 44 here) value rest long in
    label_is name here none ∙ begun text name value rest is.begins ∙ rw (front, behind, is.trimmed, is.ends) refl

module _ (quotes : (quote : ℕ) (text rest : List ℕ) → (92 == quote) ≡ false → ends_with_backslash text ≡ false → quoted quote (escaped quote text ++ quote ∷ rest) ≡ Some (text, rest)) where
  pub quoted_is : (name value rest : List ℕ) → list_any ends_label name ≡ false → ends_with_backslash value ≡ false → stops is_comma rest ≡ true
      → piece_at (name ++ 58 ∷ 39 ∷ (escaped 39 value ++ 39 ∷ rest)) ≡ ended (name ++ 58 ∷ 39 ∷ (escaped 39 value ++ 39 ∷ rest)) name (Some value) rest
  quoted_is name value rest none ends end =
      let text : List ℕ = name ++ 58 ∷ 39 ∷ (escaped 39 value ++ 39 ∷ rest) in
      label_is name (39 ∷ (escaped 39 value ++ 39 ∷ rest)) none
      ∙ ap (closed text name) (quotes 39 value rest refl ends)
      ∙ rw (no_comma rest end) refl

-- ---- what a piece says, and what is left behind it

abbrev pub one_piece : Stand → List ℕ → Acts → Result (Acts × Option (List ℕ)) Bad
one_piece stand text acts = piece_at text >>= λ piece. (with_piece stand piece.0 acts >>= λ next. Ok (next, piece.1))

abbrev pub Says : Stand → List ℕ → Acts → Acts → Type 0
Says stand piece before after = (rest : List ℕ) → stops is_comma rest ≡ true → one_piece stand (piece ++ rest) before ≡ Ok (after, behind_first rest)

-- one after the other
abbrev pub Follow : Stand → List (List ℕ) → Acts → Acts → Type 0
Follow stand [] before after = before ≡ after
Follow stand (piece ∷ pieces) before after = (mid : Acts) × Says stand piece before mid × Follow stand pieces mid after

pub follow_append : (stand : Stand) (ps qs : List (List ℕ)) (a b c : Acts) → Follow stand ps a b → Follow stand qs b c → Follow stand (ps ++ qs) a c
follow_append stand [] qs a b c p q = subst (λ x. Follow stand qs x c) (sym p) q
follow_append stand (piece ∷ ps) qs a b c p q = (p.0, p.1, follow_append stand ps qs p.0 b c p.2 q)

inner : {A R B E : Type 0} (q : Result A E) (k : R) (g : R → A → Result B E) (a : A) (x : R) → ◌>>=◌ {B = A × R} q (λ n. Ok (n, k)) ≡ Ok (a, x) → (q >>= λ n. g k n) ≡ g x a
inner {A} {R} (Ok n) k g a x h =
    let pair : (n, k) ≡ (a, x) = cc in ap₂ g (ap (λ (p : A × R). p.1) pair) (ap (λ (p : A × R). p.0) pair)
inner (Err e) k g a x h = absurd cc

chain : {P A R B E : Type 0} (r : Result P E) (f : P → Result A E) (left : P → R) (g : R → A → Result B E) (a : A) (x : R)
    → ◌>>=◌ {B = A × R} r (λ p. ◌>>=◌ {B = A × R} (f p) (λ n. Ok (n, left p))) ≡ Ok (a, x) → (r >>= λ p. (f p >>= λ n. g (left p) n)) ≡ g x a
chain (Ok p) f left g a x h = inner (f p) (left p) g a x h
chain (Err e) f left g a x h = absurd cc

step : (stand : Stand) (most : ℕ) (text : List ℕ) (a b : Acts) (rest : Option (List ℕ)) → one_piece stand text a ≡ Ok (b, rest)
    → pieces_in stand (suc most) (Some text) a ≡ pieces_in stand most rest b
step stand most text a b rest h = chain (piece_at text) (λ piece. with_piece stand piece.0 a) (λ piece. piece.1) (λ left next. pieces_in stand most left next) b rest h

none_left : (stand : Stand) (most : ℕ) (a : Acts) → pieces_in stand most None a ≡ Ok a
none_left stand zero a = refl
none_left stand (suc most) a = refl

all_read : (stand : Stand) (piece : List ℕ) (pieces : List (List ℕ)) (most : ℕ) (a b : Acts) → length pieces ≤ most → Follow stand (piece ∷ pieces) a b
    → pieces_in stand (suc most) (Some (join_with_byte 44 (piece ∷ pieces))) a ≡ Ok b
all_read stand piece [] most a b few f =
    let says : one_piece stand piece a ≡ Ok (f.0, None) = ap (λ (l : List ℕ). one_piece stand l a) (sym (append-nil piece)) ∙ f.1 [] refl in
    step stand most piece a f.0 None says ∙ none_left stand most f.0 ∙ ap (λ (x : Acts). Ok x) f.2
all_read stand piece (next ∷ pieces) zero a b few f = absurd (omega (arith, few))
all_read stand piece (next ∷ pieces) (suc most) a b few f =
    let more : List ℕ = join_with_byte 44 (next ∷ pieces) in
    step stand (suc most) (piece ++ 44 ∷ more) a f.0 (Some more) (f.1 (44 ∷ more) refl) ∙ all_read stand next pieces most f.0 b (omega (arith, few)) f.2

-- pieces have at least as many bytes and commas as there are further pieces
fewer : (piece : List ℕ) (pieces : List (List ℕ)) → length pieces ≤ length (join_with_byte 44 (piece ∷ pieces))
fewer piece [] = omega arith
fewer piece (next ∷ pieces) =
    let more : List ℕ = join_with_byte 44 (next ∷ pieces) in
    let rest = fewer next pieces in
    omega (arith, rest, length-append piece (44 ∷ more))

list_read : (stand : Stand) (piece : List ℕ) (pieces : List (List ℕ)) (b : Acts) → Follow stand (piece ∷ pieces) no_acts b → actions_in stand (join_with_byte 44 (piece ∷ pieces)) ≡ Ok b
unfolding actions_in
list_read stand piece pieces b f = all_read stand piece pieces (length (join_with_byte 44 (piece ∷ pieces))) no_acts b (fewer piece pieces) f

pub read_pieces : (stand : Stand) (pieces : List (List ℕ)) (b : Acts) → has_pieces pieces ≡ true → Follow stand pieces no_acts b → actions_in stand (join_with_byte 44 pieces) ≡ Ok b
read_pieces stand [] b some f = absurd (false≢true some)
read_pieces stand (piece ∷ pieces) b some f = list_read stand piece pieces b f
