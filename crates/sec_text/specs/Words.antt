-- The words of a logical line.
use Rattle.std.specs.Prelude.{◌≡◌, ℕ, suc, ◌-◌, ◌==◌, Bool, true, ◌&&◌, not, List, [], ◌∷◌, length, drop, take, slice_index, Option, Some, None, Result, Ok, Err, if◌then◌else◌}
use Rattle.std.specs.List.{prefix_len, list_any}
use Rattle.sec_text.specs.declared.characters.TheConstants.{BACKSLASH, QUOTE}
use Rattle.sec_text.specs.declared.faults.WordFault.{WordFault}
use Rattle.sec_text.specs.declared.faults.WordFault.TheVariants as faults
use Rattle.sec_text.specs.Readers.{ReadsAll, repeat}
use Rattle.sec_text.specs.Quotes.{is_blank, quoted}

abbrev pub Read : Type 0
Read = Result (Option (List ℕ × List ℕ)) WordFault

-- nothing, or a blank, stands next
abbrev pub is_apart : List ℕ → Bool
is_apart [] = true
is_apart (b ∷ rest) = is_blank b

-- behind a quoted word stands a blank or the end
abbrev pub closed : Option (List ℕ × List ℕ) → Read
closed None = Err faults.OpenQuote
closed (Some x) = if is_apart x.1 then Ok (Some x) else Err faults.BadWord

-- a plain word has no quote in it and does not end with \
abbrev pub is_plain : List ℕ → Bool
is_plain word = not (list_any (λ b. b == QUOTE) word) && not (slice_index word (length word - 1) == BACKSLASH)

abbrev pub plain_end : List ℕ → ℕ
plain_end bytes = prefix_len (λ b. not (is_blank b)) bytes

abbrev pub plain : List ℕ → Read
plain bytes =
    if is_plain (take (plain_end bytes) bytes)
    then Ok (Some (take (plain_end bytes) bytes, drop (plain_end bytes) bytes))
    else Err faults.BadWord

-- the word that begins here
abbrev pub word_here : List ℕ → Read
word_here [] = Ok None
word_here (b ∷ rest) = if b == QUOTE then closed (quoted QUOTE rest) else plain (b ∷ rest)

-- the next word, behind blanks
unfoldable pub next_word : List ℕ → Read
next_word line = word_here (drop (prefix_len is_blank line) line)

-- What a call answers, but for want of memory.
abbrev pub Gives : {X Y : Type 0} → (X → Y) → Result X WordFault → Result Y WordFault → Type 0
Gives view (Ok x) read = read ≡ Ok (view x)
Gives view (Err faults.NoMemory) read = Unit {0}
Gives view (Err faults.OpenQuote) read = read ≡ Err faults.OpenQuote
Gives view (Err faults.BadWord) read = read ≡ Err faults.BadWord

-- these are the words of the line, or this is its first fault
abbrev pub AreWords : List ℕ → Result (List (List ℕ)) WordFault → Type 0
AreWords line answer = ReadsAll next_word line answer

-- the same as a function: a line has fewer words than bytes, or one
unfoldable pub words : List ℕ → Result (List (List ℕ)) WordFault
words line = repeat next_word (suc (length line)) line
