-- What reading a file answers.
use Rattle.std.specs.Prelude.{◌≡◌, ℕ, ◌<◌, ◌≤◌, List, [], ◌∷◌, length, Option, Some, None, cond, nat_eq}
use Rattle.std.specs.Cmp.Lexicographic.{pointwise}
use Rattle.waf_io.specs.declared.files.FileAnswer as answer
use Rattle.waf_io.specs.declared.files.FileAnswer.TheVariants.{Content, Absent, TooLong, Failed, NoMemory}
use Rattle.waf_io.specs.declared.mem_files.MemFile.{MemFile}

-- the answer is that for this content, or for a name that is missing
abbrev pub FitsContent : answer.FileAnswer → Option (List ℕ) → ℕ → Type 0
FitsContent (Content bytes) (Some content) most = bytes ≡ content
FitsContent (Content bytes) None most = ⊥
FitsContent Absent (Some content) most = ⊥
FitsContent Absent None most = Unit {0}
FitsContent TooLong (Some content) most = most < length content
FitsContent TooLong None most = ⊥
FitsContent Failed content most = Unit {0}
FitsContent NoMemory content most = Unit {0}

-- where the files are told, the answer is that for what stands under the name
abbrev pub Answers : answer.FileAnswer → Option (List ℕ → Option (List ℕ)) → List ℕ → ℕ → Type 0
Answers a (Some files) name most = FitsContent a (files name) most
Answers a None name most = Unit {0}

-- no content is longer than was asked for
abbrev pub IsWithin : answer.FileAnswer → ℕ → Type 0
IsWithin (Content bytes) most = length bytes ≤ most
IsWithin Absent most = Unit {0}
IsWithin TooLong most = Unit {0}
IsWithin Failed most = Unit {0}
IsWithin NoMemory most = Unit {0}

-- the content of the first file with that name
abbrev pub content_of : List MemFile → List ℕ → Option (List ℕ)
content_of [] name = None
content_of (file ∷ files) name = cond (pointwise nat_eq file.name name) (Some file.content) (content_of files name)
