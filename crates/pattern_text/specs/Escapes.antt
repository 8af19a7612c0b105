-- Escapes that stand for one byte, from what follows the backslash on.
use Rattle.std.specs.Prelude.{ℕ, ◌+◌, ◌*◌, ◌==◌, not, ◌&&◌, List, [], ◌∷◌, length, take, drop, fold, Option, Some, None, if◌then◌else◌}
use Rattle.std.specs.List.{take_while}
use Rattle.std.specs.Option.{option_map}
use Rattle.std.specs.Char.{digit_value, is_ascii_alphanumeric, is_digit}
use Rattle.pattern_text.specs.Texts.{begins, is_among}
use Rattle.pattern_text.specs.declared.characters.TheConstants.{BELL, CARRIAGE_RETURN, ESCAPE, FORM_FEED, LINE_FEED, TAB}
use Rattle.pattern_text.specs.declared.escapes.TheConstants.{HEXADECIMAL, OCTAL}

-- the digits of this base at the front, two at most
abbrev pub two_digits : ℕ → List ℕ → List ℕ
two_digits base text = take_while (λ c. is_digit c base) (take 2 text)

-- the value of a digit
abbrev pub digit_in : ℕ → ℕ → Option ℕ
digit_in base c = if is_digit c base then Some (digit_value c) else None

abbrev pub number : ℕ → List ℕ → ℕ
number base digits = fold (λ n c. n * base + digit_value c) 0 digits

-- a letter and these digits: the number, and how many bytes that is
abbrev pub numbered : ℕ → List ℕ → Option (ℕ × ℕ)
numbered base text = Some (number base (two_digits base text), 1 + length (two_digits base text))

-- a letter, a brace, one or two digits and a brace
abbrev pub in_braces : List ℕ → Option (ℕ × ℕ)
in_braces text =
    if not (length (two_digits HEXADECIMAL text) == 0) && begins "}" (drop (length (two_digits HEXADECIMAL text)) text)
    then Some (number HEXADECIMAL (two_digits HEXADECIMAL text), 3 + length (two_digits HEXADECIMAL text))
    else None

-- the letters that stand for a control character
abbrev pub control : ℕ → Option ℕ
control c =
    if is_among "a" c then Some BELL
    else if is_among "e" c then Some ESCAPE
    else if is_among "f" c then Some FORM_FEED
    else if is_among "n" c then Some LINE_FEED
    else if is_among "r" c then Some CARRIAGE_RETURN
    else if is_among "t" c then Some TAB
    else None

-- any byte that is no letter or digit stands for itself
abbrev pub one_byte : List ℕ → Option (ℕ × ℕ)
one_byte [] = None
one_byte (c ∷ text) = if is_ascii_alphanumeric c then option_map (λ b. (b, 1)) (control c) else Some (c, 1)

-- the byte, and how many bytes after the backslash write it
unfoldable pub escaped : List ℕ → Option (ℕ × ℕ)
escaped text =
    if begins "x{" text then in_braces (drop 2 text)
    else if begins "x" text then numbered HEXADECIMAL (drop 1 text)
    else if begins "0" text then numbered OCTAL (drop 1 text)
    else one_byte text
