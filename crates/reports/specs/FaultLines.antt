-- The line that is printed for a fault.
use Rattle.std.specs.Prelude.{ℕ, ◌==◌, List, [], ◌++◌, length, codes, decimal, Result, Ok, Err, if◌then◌else◌}
use Rattle.sec_compile.specs.declared.fault.CompileFault.{CompileFault}
use Rattle.sec_compile.specs.declared.fault.CompileFault.TheVariants as compile_faults
use Rattle.sec_read.specs.Faults.{kind_name}
use Rattle.agent_conf.specs.declared.load_fault.LoadFault.{LoadFault}
use Rattle.agent_conf.specs.declared.load_fault.LoadFault.TheVariants as faults
use Rattle.agent_conf.specs.Words.{kind_of, word_of}

-- after a sign, where it is not empty
abbrev pub after : List ℕ → List ℕ → List ℕ
after sign text = if length text == 0 then [] else sign ++ text

-- FILE:LINE, without the line where that is 0
abbrev pub place : List ℕ → ℕ → List ℕ
place file line = file ++ (if line == 0 then [] else codes ":" ++ decimal line)

-- PLACE: KIND WORD, without the word where it is empty
abbrev pub line_of : List ℕ → ℕ → List ℕ → List ℕ → List ℕ
line_of file line kind word = place file line ++ codes ": " ++ kind ++ after (codes " ") word ++ codes "\n"

abbrev pub memory_line : List ℕ
memory_line = codes "NoMemory\n"

abbrev pub compile_line : CompileFault → List ℕ
compile_line (compile_faults.BadPattern place id) = line_of place.file place.line (codes "BadPattern") (decimal id)
compile_line compile_faults.NoMemory = memory_line

-- of what is loaded under a name
abbrev pub fault_line : List ℕ → LoadFault → List ℕ
fault_line name faults.NoFile = line_of name 0 (codes "NoFile") []
fault_line name faults.TooLong = line_of name 0 (codes "TooLong") []
fault_line name faults.ReadFault = line_of name 0 (codes "ReadFault") []
fault_line name (faults.Conf fault) = line_of name 0 (kind_of fault) (word_of fault)
fault_line name (faults.Rules fault) = line_of fault.file fault.line (kind_name fault.kind) fault.word
fault_line name (faults.Compile fault) = compile_line fault
fault_line name faults.NoMemory = memory_line

-- the line in the place of the fault
abbrev pub in_line : {A : Type 0} → List ℕ → Result A LoadFault → Result A (List ℕ)
in_line name (Ok value) = Ok value
in_line name (Err fault) = Err (fault_line name fault)
