-- The names of variables.
use Rattle.std.specs.Prelude.{ℕ, ◌==◌, Bool, false, not, ◌&&◌, List, [], ◌∷◌}
use Rattle.sec_text.specs.Quotes.{is_blank}
use Rattle.sec_text.specs.declared.characters.TheConstants.{AMPERSAND, EXCLAMATION_MARK}

-- no blank and no mark of a target stands at the front
abbrev pub begins_name : List ℕ → Bool
begins_name [] = false
begins_name (b ∷ name) = not (is_blank b) && not (b == EXCLAMATION_MARK) && not (b == AMPERSAND)
