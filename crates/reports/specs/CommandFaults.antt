-- What a part of a command answers.
use Rattle.std.specs.Prelude.{◌≡◌, ℕ, List, true, Result, Ok, Err}
use Rattle.agent_conf.specs.declared.load_fault.LoadFault.{LoadFault}
use Rattle.agent_conf.specs.LoadFaults.{is_read_fault, is_told}
use Rattle.reports.specs.FaultLines.{fault_line}
use Rattle.reports.specs.declared.faults.CommandFault as command
use Rattle.reports.specs.declared.faults.CommandFault.TheVariants as faults

-- what was read, or the line of the fault; a read that failed and no memory say nothing
abbrev pub Tells : {A : Type 0} → Result A command.CommandFault → Result A (List ℕ) → Type 0
Tells (Ok a) told = told ≡ Ok a
Tells (Err (faults.Line line)) told = told ≡ Err line
Tells (Err faults.ReadFault) told = Unit {0}
Tells (Err faults.NoMemory) told = Unit {0}

-- what a fault of loading comes to, under the name of what was loaded
abbrev pub IsFaultOf : command.CommandFault → List ℕ → LoadFault → Type 0
IsFaultOf (faults.Line line) name fault = (is_told fault ≡ true) × (line ≡ fault_line name fault)
IsFaultOf faults.ReadFault name fault = is_read_fault fault ≡ true
IsFaultOf faults.NoMemory name fault = Unit {0}
