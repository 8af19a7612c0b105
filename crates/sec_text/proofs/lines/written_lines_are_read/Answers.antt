use Rattle.sec_text.proofs.LineLaws.{lines_again}
use Rattle.sec_text.proofs.lines.written_lines_are_read.Goals as goal

pub returns : goal.returns
returns c = lines_again
