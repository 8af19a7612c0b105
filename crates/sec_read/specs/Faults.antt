-- Faults with their places, and what they are called.
use Rattle.std.specs.Prelude.{ℕ, codes, List, [], Result, Ok, Err}
use Rattle.sec_text.specs.declared.line.Line.{Line}
use Rattle.sec_text.specs.declared.faults.TextFault.{TextFault}
use Rattle.sec_text.specs.declared.faults.TextFault.TheVariants as text_faults
use Rattle.sec_text.specs.declared.faults.WordFault.{WordFault}
use Rattle.sec_text.specs.declared.faults.WordFault.TheVariants as word_faults
use Rattle.sec_parts.specs.declared.faults.Bad.{Bad}
use Rattle.sec_parts.specs.declared.faults.Flaw.{Flaw}
use Rattle.sec_parts.specs.declared.faults.Flaw.TheVariants as flaws
use Rattle.sec_read.specs.declared.faults.Cause.{Cause}
use Rattle.sec_read.specs.declared.faults.Cause.TheVariants as causes
use Rattle.sec_read.specs.declared.faults.Found.{Found}
use Rattle.sec_read.specs.declared.faults.Kind.{Kind}
use Rattle.sec_read.specs.declared.faults.Kind.TheVariants as kinds
use Rattle.sec_read.specs.declared.faults.Fault.{Fault}

abbrev pub fault : {A : Type 0} → List ℕ → ℕ → Cause → List ℕ → Result A Found
fault file line cause word = Err (record { file = file; line = line; cause = cause; word = word })

-- ---- faults of the parts of a line, at that line

abbrev pub cause_of : Flaw → Cause
cause_of flaws.RefusedByName = causes.RefusedByName
cause_of flaws.BadWord = causes.BadWord
cause_of flaws.OpenQuote = causes.OpenQuote

abbrev pub placed : {A : Type 0} → List ℕ → ℕ → Result A Bad → Result A Found
placed file line (Ok x) = Ok x
placed file line (Err bad) = fault file line (cause_of bad.flaw) bad.word

-- ---- faults of a text and of the words of a line; no text has NoMemory

abbrev pub lines_at : List ℕ → Result (List Line) TextFault → Result (List Line) Found
lines_at file (Ok lines) = Ok lines
lines_at file (Err (text_faults.NotText line)) = fault file line causes.NotText []
lines_at file (Err (text_faults.TooLong line)) = fault file line causes.TooLong []
lines_at file (Err text_faults.NoMemory) = fault file 0 causes.TooLong []

abbrev pub words_at : List ℕ → ℕ → Result (List (List ℕ)) WordFault → Result (List (List ℕ)) Found
words_at file line (Ok words) = Ok words
words_at file line (Err word_faults.OpenQuote) = fault file line causes.OpenQuote []
words_at file line (Err word_faults.BadWord) = fault file line causes.BadWord []
words_at file line (Err word_faults.NoMemory) = fault file line causes.TooLong []

-- ---- what a caller is told

abbrev pub kind_of : Cause → Kind
kind_of causes.UnknownDirective = kinds.UnknownDirective
kind_of causes.RefusedByName = kinds.RefusedByName
kind_of causes.BadWord = kinds.BadWord
kind_of causes.NoId = kinds.NoId
kind_of causes.DoubleId = kinds.DoubleId
kind_of causes.OpenChain = kinds.OpenChain
kind_of causes.OpenQuote = kinds.OpenQuote
kind_of causes.NotText = kinds.NotText
kind_of causes.NoFile = kinds.NoFile
kind_of causes.IncludeDepth = kinds.IncludeDepth
kind_of causes.TooLong = kinds.TooLong

abbrev pub fault_of : Found → Fault
fault_of found = record { file = found.file; line = found.line; kind = kind_of found.cause; word = found.word }

abbrev pub kind_name : Kind → List ℕ
kind_name kinds.UnknownDirective = codes "UnknownDirective"
kind_name kinds.RefusedByName = codes "RefusedByName"
kind_name kinds.BadWord = codes "BadWord"
kind_name kinds.NoId = codes "NoId"
kind_name kinds.DoubleId = codes "DoubleId"
kind_name kinds.OpenChain = codes "OpenChain"
kind_name kinds.OpenQuote = codes "OpenQuote"
kind_name kinds.NotText = codes "NotText"
kind_name kinds.NoFile = codes "NoFile"
kind_name kinds.IncludeDepth = codes "IncludeDepth"
kind_name kinds.TooLong = codes "TooLong"
kind_name kinds.ReadFault = codes "ReadFault"
kind_name kinds.NoMemory = codes "NoMemory"
