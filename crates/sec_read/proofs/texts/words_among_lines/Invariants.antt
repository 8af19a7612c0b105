use Rattle.std.proofs.Common.{◌≡◌, map, take}
use Rattle.sec_read.specs.FileWords.{words_among}
use Rattle.sec_read.proofs.texts.words_among_lines.Given as goal

abbrev pub invariant-loop-line : goal.invariant-loop-line
invariant-loop-line l = l.words ≡ words_among (map (λ line. line.now) (take l.line-index l.lines))
