use Rattle.std.proofs.Common.{◌∙◌, ap, sym}
use Rattle.command_line.specs.Numbers.{is_number}
use Rattle.command_line.proofs.Digits.{refused}
use Rattle.command_line.proofs.numbers.read_number.Goals as goal

pub returns-in_default : goal.returns-in_default
returns-in_default c =
    refused c.args.low c.args.high c.args.text.now c.ranges.high.fits (ap is_number (sym c.as_bytes.ensures.value) ∙ sym c.if-not-has_number_form.ensures) c.in_default.ensures.value.0
