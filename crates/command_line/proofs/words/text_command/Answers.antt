use Rattle.std.proofs.Common.{◌∙◌, sym}
use Rattle.command_line.proofs.Faults.{at_fault}
use Rattle.command_line.proofs.words.text_command.Goals as goal

pub returns : goal.returns
returns c =
    rw (sym c.if-asks_help.ensures, sym c.if-asks_version.ensures)
    (at_fault _ c.in-Err.error _ c.in-Err.ensures.causes (λ memory. c.in_default.not-OutOfMemory (c.kind.ensures ∙ memory)))
