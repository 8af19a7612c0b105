-- The places of reads that failed.
use Rattle.std.specs.Prelude.{◌≡◌, ◌⊎◌, ℕ, zero, suc, false, List, [], ◌∷◌, Option, Some, None, Result, Ok, Err}
use Rattle.sec_text.specs.declared.line.Line.{Line}
use Rattle.sec_text.specs.Words.{words}
use Rattle.sec_parts.specs.declared.faults.Bad.{Bad}
use Rattle.sec_parts.specs.declared.operators.Operator.{Operator}
use Rattle.sec_parts.specs.Operators.{operator_of}
use Rattle.sec_read.specs.declared.directive.Directive.{Directive}
use Rattle.sec_read.specs.declared.directive.Directive.TheVariants as directives
use Rattle.sec_read.specs.declared.faults.Fault.{Fault}
use Rattle.sec_read.specs.declared.faults.Found.{Found}
use Rattle.sec_read.specs.declared.faults.Kind.TheVariants as kinds
use Rattle.sec_read.specs.declared.faults.Spot.{Spot}
use Rattle.sec_read.specs.declared.files.TheConstants.{DEPTH_LIMIT}
use Rattle.sec_read.specs.declared.reading.Reading.{Reading}
use Rattle.sec_read.specs.Directives.{directive_of}
use Rattle.sec_read.specs.Faults.{words_at}
use Rattle.sec_read.specs.FileWords.{Named}
use Rattle.sec_read.specs.Listing.{Opener, handed_in, line_step, nothing_read, opened, opened_text}
use Rattle.sec_read.specs.Names.{beside, has_wildcard}
use Rattle.sec_read.specs.Results.{IsSpot}
use Rattle.sec_read.specs.Steps.{directive}

-- ---- the file of words that a rule's operator names

abbrev pub operator_file : Result Operator Bad → Option (List ℕ)
operator_file (Ok operator) = operator.file
operator_file (Err bad) = None

abbrev pub rule_file : List (List ℕ) → Option (List ℕ)
rule_file (targets ∷ operator ∷ []) = operator_file (operator_of operator)
rule_file (targets ∷ operator ∷ actions ∷ []) = operator_file (operator_of operator)
rule_file other = None

abbrev pub directive_file : List (List ℕ) → Option Directive → Option (List ℕ)
directive_file given (Some directives.SecRule) = rule_file given
directive_file given other = None

-- by the words of a line
abbrev pub named_file : List (List ℕ) → Option (List ℕ)
named_file [] = None
named_file (name ∷ given) = directive_file given (directive_of name)

-- ---- where a reading opens files: the file and line of the directive, and the word by which it names the file

-- where this is read without a fault, that holds of it
abbrev pub After : {A : Type 0} → Result A Found → (A → Type 0) → Type 0
After (Ok x) holds = holds x
After (Err fault) holds = ⊥

-- where an Include whose word it is opens files
abbrev pub FollowsTo : (List ℕ → ℕ → List ℕ → Reading → Spot → Type 0)
    → List ℕ → ℕ → Option (List ℕ) → Reading → Spot → Type 0
FollowsTo includes file line None reading spot = ⊥
FollowsTo includes file line (Some word) reading spot = includes file line word reading spot

-- a line of a file: for the words of its rule's operator, or for the file that it includes
abbrev pub LineOpens : Named → (List ℕ → ℕ → List ℕ → Reading → Spot → Type 0) → List ℕ → Line → Reading → Spot → Type 0
LineOpens files includes file line reading spot =
    After (words_at file line.number (words line.text)) (λ given.
    IsSpot file line.number (named_file given) spot
    ⊎ After (directive files file line.number given reading)
    (λ next. FollowsTo includes file line.number next.0 next.1 spot))

-- the lines of a file: one of them, once those before it are read without a fault
abbrev pub LinesOpen : Named → Opener → (List ℕ → ℕ → List ℕ → Reading → Spot → Type 0)
    → List ℕ → List Line → Reading → Spot → Type 0
LinesOpen files opener includes file [] reading spot = ⊥
LinesOpen files opener includes file (line ∷ lines) reading spot =
    LineOpens files includes file line reading spot
    ⊎ After (line_step files opener file line reading) (λ after. LinesOpen files opener includes file lines after spot)

-- an Include, where so many further depths are left: for the file itself, or for those that it names
abbrev pub IncludeOpens : Named → ℕ → List ℕ → ℕ → List ℕ → Reading → Spot → Type 0
IncludeOpens files zero file line word reading spot = ⊥
IncludeOpens files (suc depth) file line word reading spot =
    (has_wildcard word ≡ false)
    × (IsSpot file line (Some word) spot
    ⊎ After (opened_text file line word (beside file word) (files (beside file word)) reading) (λ found.
    LinesOpen files (opened files depth) (IncludeOpens files depth) (beside file word) found.0 found.1 spot))

-- a file that was handed in is in no line and has no word
abbrev pub HandedInOpens : Named → List ℕ → Reading → Spot → Type 0
HandedInOpens files name reading spot =
    IsSpot name 0 (Some []) spot
    ⊎ After (opened_text name 0 [] name (files name) reading) (λ found.
    LinesOpen files (opened files DEPTH_LIMIT) (IncludeOpens files DEPTH_LIMIT) name found.0 found.1 spot)

abbrev pub AllOpen : Named → List (List ℕ) → Reading → Spot → Type 0
AllOpen files [] reading spot = ⊥
AllOpen files (name ∷ names) reading spot =
    HandedInOpens files name reading spot
    ⊎ After (handed_in files name reading) (λ after. AllOpen files names after spot)

-- ---- the fault that a caller is told

-- a read that failed was one of a file that the reading of these names opens, and has its place
abbrev pub IsPlaceOf : Named → List (List ℕ) → Fault → Type 0
IsPlaceOf files names fault =
    (spot : Spot) × AllOpen files names nothing_read spot
    × (fault ≡ record { file = spot.file; line = spot.line; kind = kinds.ReadFault; word = spot.word })

-- for want of memory there is no place
abbrev pub nowhere : Fault
nowhere = record { file = []; line = 0; kind = kinds.NoMemory; word = [] }
