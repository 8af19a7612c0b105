-- Faults of loading.
use Rattle.std.specs.Prelude.{◌≡◌, ◌≢◌, ℕ, Bool, true, false, not, Result, Ok, Err}
use Rattle.waf_io.specs.Counts.{Rose}
use Rattle.sec_compile.specs.declared.fault.CompileFault.TheVariants as compile_faults
use Rattle.sec_read.specs.declared.faults.Kind.{Kind}
use Rattle.sec_read.specs.declared.faults.Kind.TheVariants as kinds
use Rattle.agent_conf.specs.declared.fault.ConfFault.TheVariants as conf_faults
use Rattle.agent_conf.specs.declared.load_fault.LoadFault.{LoadFault}
use Rattle.agent_conf.specs.declared.load_fault.LoadFault.TheVariants as faults

abbrev pub is_read_kind : Kind → Bool
is_read_kind kinds.ReadFault = true
is_read_kind other = false

-- a file could not be read, be it the configuration or a rule file
abbrev pub is_read_fault : LoadFault → Bool
is_read_fault faults.ReadFault = true
is_read_fault (faults.Rules fault) = is_read_kind fault.kind
is_read_fault other = false

-- a read fault only where the count of faults rose
abbrev pub Causes : {A : Type 0} → Result A LoadFault → ℕ → ℕ → Type 0
Causes (Ok value) before now = Unit {0}
Causes (Err fault) before now = is_read_fault fault ≡ true → Rose before now

-- a part for which there was no memory is no fault of that part: the whole answers `NoMemory`
abbrev pub MemoryIsApart : LoadFault → Type 0
MemoryIsApart (faults.Conf fault) = fault ≢ conf_faults.NoMemory
MemoryIsApart (faults.Rules fault) = fault.kind ≢ kinds.NoMemory
MemoryIsApart (faults.Compile fault) = fault ≢ compile_faults.NoMemory
MemoryIsApart other = Unit {0}

-- whether files tell the fault: no read failed, and memory did not run out
abbrev pub is_told : LoadFault → Bool
is_told faults.NoMemory = false
is_told fault = not (is_read_fault fault)

-- the answer is what the files tell; of a read that failed, or memory that ran out, they tell nothing
abbrev pub Tells : {A B : Type 0} → (A → B) → Result A LoadFault → Result B LoadFault → Type 0
Tells view (Ok value) told = told ≡ Ok (view value)
Tells view (Err fault) told = is_told fault ≡ true → told ≡ Err fault
