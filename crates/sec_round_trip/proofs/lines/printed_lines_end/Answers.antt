use Rattle.std.proofs.Common.{refl}
use Rattle.sec_ast.specs.PrintTexts.{line_of}
use Rattle.sec_round_trip.proofs.lines.printed_lines_end.Goals as goal

pub returns : goal.returns
unfolding line_of
returns c = λ name given. refl
