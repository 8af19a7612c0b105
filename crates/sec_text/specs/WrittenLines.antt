-- Lines as they are written.
use Rattle.std.specs.Prelude.{◌≡◌, ℕ, ◌+◌, false, List, [], ◌∷◌, ◌++◌}
use Rattle.std.specs.List.{All}
use Rattle.sec_text.specs.declared.characters.TheConstants.{LINE_FEED}
use Rattle.sec_text.specs.declared.line.Line.{Line}
use Rattle.sec_text.specs.Lines.{is_line_feed, trim, goes_on, is_passed}

-- a text that stands in one line as it is
pub record IsWhole (text : List ℕ) : Type 0 where
  pub no_feed : All (λ b. is_line_feed b ≡ false) text
  pub kept : trim text ≡ text
  pub begins : is_passed text ≡ false
  pub ends : goes_on text ≡ false

abbrev pub written_lines : List (List ℕ) → List ℕ
written_lines [] = []
written_lines (text ∷ texts) = text ++ LINE_FEED ∷ written_lines texts

abbrev pub numbered : ℕ → List (List ℕ) → List Line
numbered n [] = []
numbered n (text ∷ texts) = record { number = n; text = text } ∷ numbered (n + 1) texts
