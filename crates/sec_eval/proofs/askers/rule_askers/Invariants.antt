use Rattle.std.proofs.Common.{◌≡◌, take}
use Rattle.sec_eval.proofs.askers.rule_askers.Given as goal

abbrev pub invariant-loop-links : goal.invariant-loop-links
invariant-loop-links l = l.askers.items ≡ take l.links-index l.built
