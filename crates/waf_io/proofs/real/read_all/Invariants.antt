use Rattle.std.proofs.Common.{◌+◌, ◌-◌, length}
use Rattle.waf_io.proofs.real.read_all.Given as goal

-- each turn but the last takes a byte
abbrev pub decreases-loop-buffer : goal.decreases-loop-buffer
decreases-loop-buffer g l = l.most + 1 - length l.content
