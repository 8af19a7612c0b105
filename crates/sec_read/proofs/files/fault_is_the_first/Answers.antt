use Rattle.sec_read.proofs.FirstFault.{first_fault, first_faulty_file}
use Rattle.sec_read.proofs.files.fault_is_the_first.Goals as goal

pub returns-clause-line : goal.returns-clause-line
returns-clause-line c = first_fault

pub returns-clause-file : goal.returns-clause-file
returns-clause-file c = first_faulty_file
