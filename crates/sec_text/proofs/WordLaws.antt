-- A line has one reading.
use Rattle.std.proofs.Common.{◌≡◌, ℕ, suc, List, length, Result, Ok, Err, sym, arith}
use Rattle.std.specs.Prelude.{MatchResult, ◌≢◌}
use Rattle.sec_text.specs.declared.faults.WordFault.{WordFault}
use Rattle.sec_text.specs.declared.faults.WordFault.TheVariants as faults
use Rattle.sec_text.specs.Words.{next_word, words, AreWords, Gives}
use Rattle.sec_text.proofs.Readers.{one_reading, repeat-reads}
use Rattle.sec_text.proofs.Shrinking.{next_word-shorter}

pub words_are : (line : List ℕ) → AreWords line (words line)
unfolding words
words_are line = repeat-reads next_word (λ l. length l) (λ whole x e. next_word-shorter whole x.0 x.1 e) (suc (length line)) line (omega arith)

pub words_only : (line : List ℕ) (answer : Result (List (List ℕ)) WordFault) → AreWords line answer → answer ≡ words line
words_only line answer p = one_reading next_word line answer (words line) p (words_are line)

pub given : (r : Result (List (List ℕ)) WordFault) (line : List ℕ) → MatchResult r (λ found. AreWords line (Ok found)) (λ fault. (fault ≢ faults.NoMemory) → AreWords line (Err fault)) → Gives (λ found. found) r (words line)
given (Ok found) line p = sym (words_only line (Ok found) p)
given (Err faults.NoMemory) line p = tt
given (Err faults.OpenQuote) line p = sym (words_only line (Err faults.OpenQuote) (p (λ e. cc)))
given (Err faults.BadWord) line p = sym (words_only line (Err faults.BadWord) (p (λ e. cc)))
