-- Names that no file of the system has.
use Rattle.std.specs.Prelude.{◌≡◌, ◌⊎◌, ℕ, List, true, nat_eq}
use Rattle.std.specs.List.{list_any}
use Rattle.std.specs.Str.{IsUtf8}
use Rattle.std.specs.declared.io.ErrorKind as kind
use Rattle.std.specs.declared.io.ErrorKind.TheVariants as kinds
use Rattle.waf_io.specs.declared.files.FileAnswer as answer
use Rattle.waf_io.specs.declared.files.FileAnswer.TheVariants as answers

-- it is no text, or ends early for the system, at a byte 0
abbrev pub NamesNoFile : List ℕ → Type 0
NamesNoFile name = (¬ (IsUtf8 name)) ⊎ (list_any (λ byte. nat_eq byte 0) name ≡ true)

-- the answer for a file that could not be opened, by the kind of the error
abbrev pub unopened : kind.ErrorKind → answer.FileAnswer
unopened kinds.NotFound = answers.Absent
unopened kinds.NotADirectory = answers.Absent
unopened kinds.InvalidFilename = answers.Absent
unopened kinds.InvalidInput = answers.Absent
unopened kinds.OutOfMemory = answers.NoMemory
unopened rest = answers.Failed
