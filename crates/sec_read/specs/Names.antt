-- Names of files.
use Rattle.std.specs.Prelude.{ℕ, ◌==◌, ◌-◌, Bool, false, not, ◌||◌, List, [], ◌∷◌, ◌++◌, length, take, if◌then◌else◌}
use Rattle.std.specs.List.{list_any, suffix_len}
use Rattle.sec_read.specs.declared.names.TheConstants.{ASTERISK, QUESTION_MARK, LEFT_BRACKET, SLASH}

-- a name of several files
abbrev pub has_wildcard : List ℕ → Bool
has_wildcard word = list_any (λ b. b == ASTERISK || b == QUESTION_MARK || b == LEFT_BRACKET) word

abbrev pub begins_with_slash : List ℕ → Bool
begins_with_slash [] = false
begins_with_slash (b ∷ rest) = b == SLASH

-- up to and including the last /
abbrev pub is_within_name : ℕ → Bool
is_within_name b = not (b == SLASH)

abbrev pub folder_of : List ℕ → List ℕ
folder_of name = take (length name - suffix_len is_within_name name) name

-- the name that a word stands for in a file
abbrev pub beside : List ℕ → List ℕ → List ℕ
beside file word = if begins_with_slash word then word else folder_of file ++ word
