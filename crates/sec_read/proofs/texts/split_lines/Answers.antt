use Rattle.std.proofs.Common.{rules}
use Rattle.std.proofs.lemmas.Iterator.Consumers.{map_from_collect}
use Rattle.std.proofs.lemmas.Iterator.Splits.{YieldsList-from_slice_split}
use Rattle.sec_text.specs.Lines.{is_line_feed}
use Rattle.sec_read.proofs.texts.split_lines.Goals as goal

pub returns : goal.returns
returns c = rw c.in_ok-lines.was at (map_from_collect _ c.collect.ensures.ran (YieldsList-from_slice_split _ is_line_feed c.args.content.now c.split.ensures.rest c.split.ensures.done c.split.ensures.closure (search rules)))
