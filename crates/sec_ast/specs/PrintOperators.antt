-- Operators as they are written.
use Rattle.std.specs.Prelude.{ℕ, ◌==◌, ◌/◌, ◌%◌, Bool, ◌&&◌, not, List, [], ◌∷◌, ◌++◌, codes, map, slice_index, if◌then◌else◌}
use Rattle.std.specs.Char.{is_ascii_graphic}
use Rattle.std.specs.List.{flat_map, join_with_byte}
use Rattle.sec_ast.specs.Operator.{operator_name}
use Rattle.sec_ast.specs.PrintMacros.{macro_text}
use Rattle.sec_ast.specs.declared.macros.Part.{Part}
use Rattle.sec_ast.specs.declared.operator.Op.{Op}
use Rattle.sec_ast.specs.declared.operator.OpKind.{OpKind}
use Rattle.sec_ast.specs.declared.operator.OpKind.TheVariants as kinds
use Rattle.sec_ast.specs.declared.print_operators.TheConstants.{HEX_BASE}
use Rattle.sec_text.specs.declared.characters.TheConstants.{BACKSLASH, BAR, COMMA, QUOTE, SPACE}

-- a visible character of ASCII that is no quote, no bar and no backslash
abbrev pub is_plain : ℕ → Bool
is_plain b = is_ascii_graphic b && not (b == QUOTE) && not (b == BAR) && not (b == BACKSLASH)

abbrev pub hex_digit : ℕ → ℕ
hex_digit n = slice_index (codes "0123456789abcdef") n

-- any other byte is written as two hexadecimal digits between bars
abbrev pub phrase_byte : ℕ → List ℕ
phrase_byte b = if is_plain b then b ∷ [] else BAR ∷ hex_digit (b / HEX_BASE) ∷ hex_digit (b % HEX_BASE) ∷ BAR ∷ []

abbrev pub phrase_text : List ℕ → List ℕ
phrase_text phrase = flat_map phrase_byte phrase

-- phrases are parted by blanks, addresses and ranges by commas; any other argument is a macro
abbrev pub argument_text : OpKind → List Part → List (List ℕ) → List ℕ
argument_text kinds.Pm text words = join_with_byte SPACE (map phrase_text words)
argument_text kinds.IpMatch text words = join_with_byte COMMA words
argument_text kinds.ValidateByteRange text words = join_with_byte COMMA words
argument_text other text words = macro_text text

abbrev pub behind_blank : List ℕ → List ℕ
behind_blank [] = []
behind_blank (b ∷ argument) = SPACE ∷ b ∷ argument

unfoldable pub operator_text : Bool → Op → List ℕ
operator_text negated op =
    (if negated then codes "!@" else codes "@") ++ operator_name op.kind
    ++ behind_blank (argument_text op.kind op.text op.words)
