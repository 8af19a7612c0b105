-- The listing of rule files, or the first fault in reading order.
use Rattle.std.specs.Prelude.{◌≡◌, ℕ, zero, suc, List, [], ◌∷◌, Option, Some, None, Result, Ok, Err, if◌then◌else◌}
use Rattle.sec_ast.specs.declared.Listing.{Listing}
use Rattle.sec_text.specs.declared.line.Line.{Line}
use Rattle.sec_text.specs.Lines.{lines_of}
use Rattle.sec_text.specs.Words.{words}
use Rattle.sec_parts.specs.Results.{◌>>=◌}
use Rattle.sec_read.specs.declared.faults.Cause.TheVariants as causes
use Rattle.sec_read.specs.declared.faults.Fault.{Fault}
use Rattle.sec_read.specs.declared.faults.Found.{Found}
use Rattle.sec_read.specs.declared.faults.Halt.{Halt}
use Rattle.sec_read.specs.declared.faults.Halt.TheVariants as halts
use Rattle.sec_read.specs.declared.faults.Kind.{Kind}
use Rattle.sec_read.specs.declared.faults.Kind.TheVariants as kinds
use Rattle.sec_read.specs.declared.files.TheConstants.{DEPTH_LIMIT}
use Rattle.sec_read.specs.declared.modes.PatternMode.TheVariants as modes
use Rattle.sec_read.specs.declared.reading.Reading.{Reading}
use Rattle.sec_read.specs.declared.texts.Text.{Text}
use Rattle.sec_read.specs.Defaults.{first_defaults}
use Rattle.sec_read.specs.Faults.{fault, fault_of, lines_at, words_at}
use Rattle.sec_read.specs.FileWords.{Named, admitted}
use Rattle.sec_read.specs.Names.{beside, has_wildcard}
use Rattle.sec_read.specs.Removals.{kept, no_removals}
use Rattle.sec_read.specs.Settings.{first_settings}
use Rattle.sec_read.specs.Steps.{directive, unless_open}

-- ---- lines

-- how a file that a directive names is read: by the directive's file and line, and the word
abbrev pub Opener : Type 0
Opener = List ℕ → ℕ → List ℕ → Reading → Result Reading Found

abbrev pub followed : Opener → List ℕ → ℕ → Option (List ℕ) → Reading → Result Reading Found
followed opener file line None reading = Ok reading
followed opener file line (Some word) reading = opener file line word reading

abbrev pub line_step : Named → Opener → List ℕ → Line → Reading → Result Reading Found
line_step files opener file line reading = do
  given ← words_at file line.number (words line.text)
  next ← directive files file line.number given reading
  followed opener file line.number next.0 next.1

-- the lines of a file, one after the other
abbrev pub lines_from : Named → Opener → List ℕ → List Line → Reading → Result Reading Found
lines_from files opener file [] reading = unless_open file reading.unfinished (Ok reading)
lines_from files opener file (line ∷ lines) reading = do
  after ← line_step files opener file line reading
  lines_from files opener file lines after

-- ---- files

-- the lines of a text that was read, after what was read before it
abbrev pub opened_lines : List ℕ → Reading → Text → Result (List Line × Reading) Found
opened_lines name reading text =
    lines_at name (lines_of text.content) >>= λ lines. Ok (lines, record reading { total = text.total })

-- a text that a directive in a file and line names by a word
abbrev pub opened_text : List ℕ → ℕ → List ℕ → List ℕ → Option (List ℕ) → Reading → Result (List Line × Reading) Found
opened_text file line word name content reading =
    admitted file line word content reading.total >>= opened_lines name reading

-- a name with a wildcard is refused before all else
abbrev pub guarded : Opener → Opener
guarded opener =
    λ file line word reading. if has_wildcard word then fault file line causes.RefusedByName word
    else opener file line word reading

-- what Include does where so many further depths are left
abbrev pub included : Named → ℕ → Opener
included files zero = λ file line word reading. fault file line causes.IncludeDepth word
included files (suc depth) = λ file line word reading.
    opened_text file line word (beside file word) (files (beside file word)) reading >>= λ found.
    lines_from files (guarded (included files depth)) (beside file word) found.0 found.1

abbrev pub opened : Named → ℕ → Opener
opened files depth = guarded (included files depth)

-- a handed-in file; those that it includes have depths from 1 on
abbrev pub handed_in : Named → List ℕ → Reading → Result Reading Found
handed_in files name reading =
    opened_text name 0 [] name (files name) reading >>= λ found.
    lines_from files (opened files DEPTH_LIMIT) name found.0 found.1

-- one after the other
abbrev pub all_handed_in : Named → List (List ℕ) → Reading → Result Reading Found
all_handed_in files [] reading = Ok reading
all_handed_in files (name ∷ names) reading = handed_in files name reading >>= all_handed_in files names

-- ---- the listing

abbrev pub nothing_read : Reading
nothing_read = record {
  items = [];
  unfinished = None;
  defaults = first_defaults;
  settings = first_settings;
  mode = modes.Unicode;
  removals = no_removals;
  total = 0;
}

-- without the rules that are removed
abbrev pub effective : Reading → Listing
effective reading = record {
  items = kept reading.removals reading.items;
  engine = reading.settings.engine;
  request_body = reading.settings.request_body;
  request_limit = reading.settings.request_limit;
  limit_reject = reading.settings.limit_reject;
  response_body = reading.settings.response_body;
}

-- the listing of these files, read as one, or the first fault
unfoldable pub listing : Named → List (List ℕ) → Result Listing Found
listing files names = all_handed_in files names nothing_read >>= λ reading. Ok (effective reading)

-- ---- the answer of a call

-- this is the first fault, unless memory ran out or a read failed
abbrev pub IsFirstFault : Result Listing Found → Fault → Kind → Type 0
IsFirstFault read first kinds.NoMemory = Unit {0}
IsFirstFault read first kinds.ReadFault = Unit {0}
IsFirstFault read first kind = (found : Found) × (read ≡ Err found) × (first ≡ fault_of found)

abbrev pub IsListing : Named → List (List ℕ) → Result Listing Fault → Type 0
IsListing files names (Ok found) = listing files names ≡ Ok found
IsListing files names (Err first) = IsFirstFault (listing files names) first first.kind

-- what a caller is told of a stop
abbrev pub IsToldFault : Fault → Halt → Type 0
IsToldFault told (halts.Fault found) = told ≡ fault_of found
IsToldFault told halts.NoMemory = told ≡ record { file = []; line = 0; kind = kinds.NoMemory; word = [] }
IsToldFault told (halts.Unread spot) =
    told ≡ record { file = spot.file; line = spot.line; kind = kinds.ReadFault; word = spot.word }
