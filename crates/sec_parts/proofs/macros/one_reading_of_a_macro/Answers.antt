use Rattle.sec_parts.proofs.Shrinking.{macro_is, macro_only}
use Rattle.sec_parts.proofs.macros.one_reading_of_a_macro.Goals as goal

pub returns-clause-is : goal.returns-clause-is
returns-clause-is c = macro_is

pub returns-clause-only : goal.returns-clause-only
returns-clause-only c = macro_only
