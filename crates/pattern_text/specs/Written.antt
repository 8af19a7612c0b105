-- A token as the code holds it. (For private contracts.)
use Rattle.std.specs.Prelude.{◌≡◌, ℕ, ◌<◌, ◌≤◌, List, ◌++◌, take, codes, length, Option, IfSome}
use Rattle.std.specs.Option.{option_map}
use Rattle.pattern_text.specs.Texts.{byte_text}
use Rattle.pattern_text.specs.Words.{Word, set_text, class_text, line_end}
use Rattle.pattern_text.specs.declared.token.Token.{Token}
use Rattle.pattern_text.specs.declared.token.Wording.{Wording}
use Rattle.pattern_text.specs.declared.token.Wording.TheVariants.{Kept, Byte, Range, Members, Class, LineEnd}

abbrev pub text_of : Wording → List ℕ → List ℕ
text_of Kept taken = taken
text_of (Byte b) taken = byte_text b
text_of (Range low high) taken = byte_text low ++ codes "-" ++ byte_text high
text_of (Members set) taken = set_text set
text_of (Class set) taken = class_text set
text_of LineEnd taken = line_end

abbrev pub word_of : List ℕ → Token → Word
word_of pattern token = record {
  text = text_of token.wording (take token.takes pattern);
  takes = token.takes;
  next = token.next;
}

-- the code's token is this one
abbrev pub IsToken : List ℕ → Option Token → Option Word → Type 0
IsToken pattern token word = option_map (word_of pattern) token ≡ word

-- it takes some bytes, and no more than there are
abbrev pub Fits : List ℕ → Option Token → Type 0
Fits pattern token = IfSome token (λ t. (0 < t.takes) × (t.takes ≤ length pattern))
