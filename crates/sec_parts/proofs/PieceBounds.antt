-- The bounds on how many pieces are read are never met.
use Rattle.std.proofs.Common.{◌≡◌, ℕ, zero, suc, ◌+◌, ◌<◌, ◌≤◌, Bool, true, false, cond, List, [], ◌∷◌, length, take, drop, length-drop, Option, Some, None, Result, Ok, Err, refl, ap, arith}
use Rattle.std.specs.Prelude.{◌&&◌, ◌==◌}
use Rattle.std.specs.List.{list_all, prefix_len}
use Rattle.sec_ast.specs.Variable.{variable_named}
use Rattle.sec_ast.specs.declared.target.Select.TheVariants as selects
use Rattle.sec_ast.specs.declared.target.Target.{Target}
use Rattle.sec_ast.specs.declared.variable.Var.{Var}
use Rattle.sec_text.specs.Quotes.{behind, is_blank, quoted}
use Rattle.sec_text.specs.Readers.{onto, repeat, «then»}
use Rattle.sec_parts.specs.declared.acts.Acts.{Acts}
use Rattle.sec_parts.specs.declared.faults.Bad.{Bad}
use Rattle.sec_parts.specs.declared.kinds.Stand.{Stand}
use Rattle.sec_parts.specs.declared.pieces.Piece.{Piece}
use Rattle.sec_parts.specs.Acts.{actions_in, no_acts, pieces_in, with_piece}
use Rattle.sec_parts.specs.Pieces.{behind_name, closed, ended, piece_at, plain, valued}
use Rattle.sec_parts.specs.Results.{◌>>=◌, bad, refused}
use Rattle.sec_parts.specs.Targets.{Chosen, by_name, by_pattern, by_quote, found, in_quotes, is_xml, marked, next_target, one_target, quoted_name, quoted_pattern, selected, selector, selector_of, target_at, targets_of, unmarked, up_to_quote, where_blank}
use Rattle.sec_parts.specs.Targets as target
use Rattle.sec_parts.specs.Texts.{behind_first, ends_open, piece_before, skip_blanks, to_byte, to_either, trim, trim_end}
use Rattle.sec_parts.specs.Variables.{is_refused_variable}
use Rattle.sec_parts.proofs.Given.{Given, given_bind, given_from, given_if}

-- ---- what is left is no longer than a text

abbrev pub Left : ℕ → Option (List ℕ) → Type 0
Left n None = Unit {0}
Left n (Some text) = suc (length text) ≤ n

first_left : (n : ℕ) (rest : List ℕ) → length rest ≤ n → Left n (behind_first rest)
first_left n [] h = tt
first_left n (b ∷ rest) h = h

abbrev InQuotes : ℕ → Option (List ℕ × List ℕ) → Type 0
InQuotes n None = Unit {0}
InQuotes n (Some x) = length x.1 ≤ n

behind_within : (n m b : ℕ) (o : Option (List ℕ × List ℕ)) → n ≤ m → InQuotes n o → InQuotes m (behind b o)
behind_within n m b None h is = tt
behind_within n m b (Some x) h is = omega (arith, h, is)

quoted_within : (quote : ℕ) (bytes : List ℕ) → InQuotes (length bytes) (quoted quote bytes)
quoted_within quote [] = tt
quoted_within quote (a ∷ []) = one (a == quote)
  where
    one : (p : Bool) → InQuotes 1 (cond p (Some ([], [])) None)
    one true = omega arith
    one false = tt
quoted_within quote (a ∷ b ∷ rest) = two a b rest (a == quote) ((a == 92) && (b == quote)) (quoted_within quote rest) (quoted_within quote (b ∷ rest))
  where
    two : (a b : ℕ) (rest : List ℕ) (p q : Bool) → InQuotes (length rest) (quoted quote rest) → InQuotes (length (b ∷ rest)) (quoted quote (b ∷ rest))
        → InQuotes (length (a ∷ b ∷ rest)) (cond p (Some ([], b ∷ rest)) (cond q (behind quote (quoted quote rest)) (behind a (quoted quote (b ∷ rest)))))
    two a b rest true q skip next = omega arith
    two a b rest false true skip next = behind_within (length rest) (length (a ∷ b ∷ rest)) quote (quoted quote rest) (omega arith) skip
    two a b rest false false skip next = behind_within (length (b ∷ rest)) (length (a ∷ b ∷ rest)) a (quoted quote (b ∷ rest)) (omega arith) next

dropped : (n k : ℕ) (text : List ℕ) → length text ≤ n → length (drop k text) ≤ n
dropped n k text h = omega (arith, h, length-drop k text)

-- ---- action lists

module _ (n : ℕ) where
  abbrev IsLeft : Piece × Option (List ℕ) → Type 0
  IsLeft x = Left n x.1

  ended_left : (text name : List ℕ) (value : Option (List ℕ)) (rest : List ℕ) → length rest ≤ n → Given IsLeft (ended text name value rest)
  ended_left text name value rest h = first_left n rest h

  closed_left : (text name : List ℕ) (o : Option (List ℕ × List ℕ)) → InQuotes n o → Given IsLeft (closed text name o)
  closed_left text name None h = tt
  closed_left text name (Some x) h =
      given_if IsLeft (list_all is_blank (take (to_byte 44 x.1) x.1)) (ended text name (Some x.0) (drop (to_byte 44 x.1) x.1)) (bad (piece_before text (drop (to_byte 44 x.1) x.1)))
      (λ i. ended_left text name (Some x.0) (drop (to_byte 44 x.1) x.1) (dropped n (to_byte 44 x.1) x.1 h)) (λ i. tt)

  plain_left : (text name here : List ℕ) → length here ≤ n → Given IsLeft (plain text name here)
  plain_left text name here h =
      given_if IsLeft (ends_open (trim_end (take (to_byte 44 here) here))) (bad (piece_before text (drop (to_byte 44 here) here))) (ended text name (Some (trim_end (take (to_byte 44 here) here))) (drop (to_byte 44 here) here)) (λ i. tt)
      (λ i. ended_left text name (Some (trim_end (take (to_byte 44 here) here))) (drop (to_byte 44 here) here) (dropped n (to_byte 44 here) here h))

  shorter : (b : ℕ) (rest : List ℕ) → length (b ∷ rest) ≤ n → length rest ≤ n
  shorter b rest h = omega (arith, h)

  quotes_left : (quote : ℕ) (bytes : List ℕ) → length bytes ≤ n → InQuotes n (quoted quote bytes)
  quotes_left quote bytes h = wider (quoted quote bytes) (quoted_within quote bytes)
    where
      wider : (o : Option (List ℕ × List ℕ)) → InQuotes (length bytes) o → InQuotes n o
      wider None i = tt
      wider (Some x) i = omega (arith, h, i)

  valued_left : (text name here : List ℕ) → length here ≤ n → Given IsLeft (valued text name here)
  valued_left text name [] h = plain_left text name [] h
  valued_left text name (b ∷ rest) h =
      given_if IsLeft (b == 39) (closed text name (quoted 39 rest)) (plain text name (b ∷ rest)) (λ i. closed_left text name (quoted 39 rest) (quotes_left 39 rest (shorter b rest h))) (λ i. plain_left text name (b ∷ rest) h)

  behind_left : (text name rest : List ℕ) → length rest ≤ n → Given IsLeft (behind_name text name rest)
  behind_left text name [] h = tt
  behind_left text name (b ∷ rest) h =
      given_if IsLeft (b == 58) (valued text name (skip_blanks rest)) (ended text name None (b ∷ rest)) (λ i. valued_left text name (skip_blanks rest) (dropped n (prefix_len is_blank rest) rest (shorter b rest h)))
      (λ i. ended_left text name None (b ∷ rest) h)

  -- ---- targets

  abbrev Within : Chosen → Type 0
  Within chosen = length chosen.1 ≤ n

  pattern_within : (o : Option (List ℕ × List ℕ)) → InQuotes n o → Within (by_pattern o)
  pattern_within None h = omega arith
  pattern_within (Some x) h = dropped n (to_byte 124 x.1) x.1 h

  quoted_pattern_within : (o : Option (List ℕ × List ℕ)) (after : List ℕ) → length after ≤ n → Within (quoted_pattern o after)
  quoted_pattern_within None after h = omega arith
  quoted_pattern_within (Some x) after h = dropped n (to_byte 124 after) after h

  within_if : (p : Bool) (x y : Chosen) → Within x → Within y → Within (cond p x y)
  within_if true x y a b = a
  within_if false x y a b = b

  in_quotes_within : (text after : List ℕ) → length after ≤ n → Within (in_quotes text after)
  in_quotes_within [] after h = dropped n (to_byte 124 after) after h
  in_quotes_within (b ∷ text) after h =
      within_if (b == 47) (quoted_pattern (quoted 47 text) after) (where_blank (quoted_name (b ∷ text)) after) (quoted_pattern_within (quoted 47 text) after h) (dropped n (to_byte 124 after) after h)

  up_to_within : (text rest : List ℕ) → length rest ≤ n → Within (up_to_quote text rest)
  up_to_within text [] h = omega arith
  up_to_within text (quote ∷ after) h = in_quotes_within text after (shorter quote after h)

  selector_within : (here : List ℕ) → length here ≤ n → Within (selector here)
  selector_within [] h = dropped n (to_byte 124 []) [] h
  selector_within (b ∷ rest) h =
      within_if (b == 47) (by_pattern (quoted 47 rest)) _ (pattern_within (quoted 47 rest) (quotes_left 47 rest (shorter b rest h)))
      (within_if (b == 39) (by_quote rest) (by_name (b ∷ rest)) (up_to_within (take (to_byte 39 rest) rest) (drop (to_byte 39 rest) rest) (dropped n (to_byte 39 rest) rest (shorter b rest h)))
      (dropped n (to_byte 124 (b ∷ rest)) (b ∷ rest) h))

  selector_of_within : (var : Option Var) (here : List ℕ) → length here ≤ n → Within (selector_of var here)
  selector_of_within var here h = within_if (is_xml var) (by_name here) (selector here) (dropped n (to_byte 124 here) here h) (selector_within here h)

  abbrev IsNext : Target × Option (List ℕ) → Type 0
  IsNext x = Left n x.1

  found_left : (count exclude : Bool) (text name : List ℕ) (var : Option Var) (chosen : Chosen) → Within chosen → Given IsNext (found (record { count = count; exclude = exclude }) text name var chosen)
  found_left count exclude text name var chosen h =
      given_if IsNext (is_refused_variable (trim name)) (refused (trim name)) (selected (piece_before text chosen.1) (record { count = count; exclude = exclude }) chosen.0 var >>= λ target. Ok (target, behind_first chosen.1)) (λ i. tt)
      (λ i. given_bind (λ (t : Target). Unit {0}) IsNext (selected (piece_before text chosen.1) (record { count = count; exclude = exclude }) chosen.0 var) (λ target. Ok (target, behind_first chosen.1)) (given_from (λ (t : Target). Unit {0}) (selected (piece_before text chosen.1) (record { count = count; exclude = exclude }) chosen.0 var) (λ t e. tt))
      (λ t e. first_left n chosen.1 h))

  name_left : (count exclude : Bool) (text name rest : List ℕ) → length rest ≤ n → Given IsNext (target.behind_name (record { count = count; exclude = exclude }) text name rest)
  name_left count exclude text name [] h = found_left count exclude text name (variable_named (trim_end name)) (Some selects.All, []) h
  name_left count exclude text name (b ∷ rest) h =
      given_if IsNext (b == 58) (found (record { count = count; exclude = exclude }) text name (variable_named name) (selector_of (variable_named name) rest)) (found (record { count = count; exclude = exclude }) text name (variable_named (trim_end name)) (Some selects.All, b ∷ rest))
      (λ i. found_left count exclude text name (variable_named name) (selector_of (variable_named name) rest) (selector_of_within (variable_named name) rest (shorter b rest h)))
      (λ i. found_left count exclude text name (variable_named (trim_end name)) (Some selects.All, b ∷ rest) h)

  unmarked_left : (count exclude : Bool) (text here : List ℕ) → length here ≤ n → Given IsNext (unmarked (record { count = count; exclude = exclude }) text here)
  unmarked_left count exclude text here h = name_left count exclude text (take (to_either 124 58 here) here) (drop (to_either 124 58 here) here) (dropped n (to_either 124 58 here) here h)

  marked_left : (text here : List ℕ) → length here ≤ n → Given IsNext (marked text here)
  marked_left text [] h = unmarked_left false false text [] h
  marked_left text (b ∷ rest) h =
      given_if IsNext (b == 33) (unmarked (record { count = false; exclude = true }) text rest) _ (λ i. unmarked_left false true text rest (shorter b rest h))
      (λ i. given_if IsNext (b == 38) (unmarked (record { count = true; exclude = false }) text rest) (unmarked (record { count = false; exclude = false }) text (b ∷ rest)) (λ j. unmarked_left true false text rest (shorter b rest h))
      (λ j. unmarked_left false false text (b ∷ rest) h))

pub piece_left : (text : List ℕ) → Given (IsLeft (length text)) (piece_at text)
unfolding piece_at
piece_left text = behind_left (length text) text (take (to_either 44 58 text) text) (drop (to_either 44 58 text) text) (dropped (length text) (to_either 44 58 text) text (omega arith))

pub target_left : (text : List ℕ) → Given (IsNext (length text)) (target_at text)
unfolding target_at
target_left text = marked_left (length text) text (skip_blanks text) (dropped (length text) (prefix_len is_blank text) text (omega arith))

-- ---- more pieces change nothing

-- what is left to do
abbrev pub size : Option (List ℕ) → ℕ
size None = 0
size (Some text) = suc (length text)

pub left_size : (n : ℕ) (o : Option (List ℕ)) → Left n o → size o ≤ n
left_size n None h = omega arith
left_size n (Some text) h = h

bind_same : {A B E : Type 0} (P : A → Type 0) (r : Result A E) (f g : A → Result B E) → Given P r → ((x : A) → P x → f x ≡ g x) → (r >>= f) ≡ (r >>= g)
bind_same P (Ok x) f g h same = same x h
bind_same P (Err e) f g h same = refl

pieces_same : (stand : Stand) (k m : ℕ) (o : Option (List ℕ)) (acts : Acts) → size o ≤ k → size o ≤ m → pieces_in stand k o acts ≡ pieces_in stand m o acts
pieces_same stand zero zero o acts h i = refl
pieces_same stand zero (suc m) None acts h i = refl
pieces_same stand (suc k) zero None acts h i = refl
pieces_same stand (suc k) (suc m) None acts h i = refl
pieces_same stand zero (suc m) (Some text) acts h i = absurd (omega (arith, h))
pieces_same stand (suc k) zero (Some text) acts h i = absurd (omega (arith, i))
pieces_same stand (suc k) (suc m) (Some text) acts h i =
    bind_same (IsLeft (length text)) (piece_at text) (λ piece. with_piece stand piece.0 acts >>= λ next. pieces_in stand k piece.1 next) (λ piece. with_piece stand piece.0 acts >>= λ next. pieces_in stand m piece.1 next) (piece_left text)
    (λ piece left. bind_same (λ (a : Acts). Unit {0}) (with_piece stand piece.0 acts) (λ next. pieces_in stand k piece.1 next) (λ next. pieces_in stand m piece.1 next) (given_from (λ (a : Acts). Unit {0}) (with_piece stand piece.0 acts) (λ a e. tt))
    (λ next e. let less = left_size (length text) piece.1 left in pieces_same stand k m piece.1 next (omega (arith, less, h)) (omega (arith, less, i))))

pub more_pieces : (stand : Stand) (text : List ℕ) (more : ℕ) → pieces_in stand (suc (length text) + more) (Some text) no_acts ≡ actions_in stand text
unfolding actions_in
more_pieces stand text more = pieces_same stand (suc (length text) + more) (suc (length text)) (Some text) no_acts (omega arith) (omega arith)

-- two readings that go on alike
then_same : (r : Result (Target × Option (List ℕ)) Bad) (n : ℕ) (f g : Option (List ℕ) → Result (List Target) Bad) → Given (IsNext n) r → ((o : Option (List ℕ)) → Left n o → f o ≡ g o) → «then» f (one_target r) ≡ «then» g (one_target r)
then_same (Ok x) n f g h same = ap (λ (r : Result (List Target) Bad). onto x.0 r) (same x.1 h)
then_same (Err e) n f g h same = refl

targets_same : (k m : ℕ) (o : Option (List ℕ)) → size o < k → size o < m → repeat next_target k o ≡ repeat next_target m o
unfolding target_at
targets_same zero m o h i = absurd (omega (arith, h))
targets_same (suc k) zero o h i = absurd (omega (arith, i))
targets_same (suc k) (suc m) None h i = refl
targets_same (suc k) (suc m) (Some text) h i =
    then_same (target_at text) (length text) (repeat next_target k) (repeat next_target m) (target_left text)
    (λ o left. let less = left_size (length text) o left in targets_same k m o (omega (arith, less, h)) (omega (arith, less, i)))

pub more_targets : (text : List ℕ) (more : ℕ) → repeat next_target (suc (suc (length text)) + more) (Some text) ≡ targets_of text
unfolding targets_of target_at
more_targets text more = targets_same (suc (suc (length text)) + more) (suc (suc (length text))) (Some text) (omega arith) (omega arith)
