-- The operator of a rule, with the words that it takes from a file, and with addresses that are some.
use Rattle.std.specs.Prelude.{ℕ, Bool, true, false, not, find, is_some, List, Option, Some, None, Result, Ok, if◌then◌else◌}
use Rattle.ip_set.specs.Membership.{block_of}
use Rattle.sec_ast.specs.declared.OpKind.{OpKind}
use Rattle.sec_ast.specs.declared.OpKind.TheVariants as kinds
use Rattle.sec_parts.specs.declared.faults.Bad.{Bad}
use Rattle.sec_parts.specs.declared.operators.Operator.{Operator}
use Rattle.sec_parts.specs.Operators.{operator_of}
use Rattle.sec_parts.specs.Results.{◌>>=◌, bad}
use Rattle.sec_read.specs.declared.faults.Cause.TheVariants as causes
use Rattle.sec_read.specs.declared.faults.Found.{Found}
use Rattle.sec_read.specs.Faults.{fault, placed}
use Rattle.sec_read.specs.Names.{beside, has_wildcard}
use Rattle.sec_read.specs.FileWords.{Named, admitted, words_in}

-- ---- words that name addresses

-- an address or a block of addresses
abbrev pub is_address_word : List ℕ → Bool
is_address_word word = is_some (block_of word)

-- ---- what an operator is to have

abbrev pub is_of_addresses : OpKind → Bool
is_of_addresses kinds.IpMatch = true
is_of_addresses other = false

-- the first word that names no address and no block
abbrev pub first_bad : List (List ℕ) → Option (List ℕ)
first_bad words = find (λ word. not (is_address_word word)) words

abbrev pub unless_bad : Option (List ℕ) → Operator → Result Operator Bad
unless_bad None operator = Ok operator
unless_bad (Some word) operator = bad word

abbrev pub checked : Operator → Result Operator Bad
checked operator = unless_bad (if is_of_addresses operator.op.kind then first_bad operator.op.words else None) operator

abbrev pub with_words : Operator → List (List ℕ) → Operator
with_words operator words = record operator { op = record operator.op { words = words } }

-- with the words of a text that a directive in a file and line names by a word; a number counts the bytes of texts
abbrev pub filled_from : List ℕ → ℕ → List ℕ → Option (List ℕ) → Operator → ℕ → Result (Operator × ℕ) Found
filled_from file line word content operator total =
    admitted file line word content total >>= λ text. Ok (with_words operator (words_in text.content), text.total)

-- where its words stand in a file it takes them from there
abbrev pub filled : Named → List ℕ → ℕ → Option (List ℕ) → Operator → ℕ → Result (Operator × ℕ) Found
filled files file line None operator total = Ok (operator, total)
filled files file line (Some word) operator total =
    if has_wildcard word then fault file line causes.RefusedByName word
    else filled_from file line word (files (beside file word)) operator total

-- once its addresses are some
abbrev pub checked_at : List ℕ → ℕ → Operator × ℕ → Result (Operator × ℕ) Found
checked_at file line whole = placed file line (checked whole.0) >>= λ operator. Ok (operator, whole.1)

unfoldable pub operator_at : Named → List ℕ → ℕ → List ℕ → ℕ → Result (Operator × ℕ) Found
operator_at files file line word total = do
  stated ← placed file line (operator_of word)
  whole ← filled files file line stated.file stated total
  checked_at file line whole
