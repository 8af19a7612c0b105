use Rattle.std.proofs.Common.{◌≡◌, take}
use Rattle.sec_eval.proofs.askers.link_askers.Given as goal

abbrev pub invariant-loop-link : goal.invariant-loop-link
invariant-loop-link l = l.askers.items ≡ take l.link-index l.built
