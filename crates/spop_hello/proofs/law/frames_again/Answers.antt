use Rattle.spop_hello.proofs.Again.{hello_again, hello_read, leave_again, leave_read}
use Rattle.spop_hello.proofs.law.frames_again.Goals as goal

pub returns : goal.returns
returns c = record { hello = hello_again; in_hello = hello_read; leave = leave_again; in_leave = leave_read }
