use Rattle.std.proofs.Common.{◌≡◌, cond, refl, subst, sym}
use Rattle.waf_io.specs.Counts.{one_more}
use Rattle.waf_io.proofs.Unused.{none_failed}
use Rattle.waf_io.proofs.mem_doors.InfallibleDoorsDoors.take_back.Goals as goal

pub returns-clause-faults : goal.returns-clause-faults
returns-clause-faults g c = subst (λ b. 0 ≡ cond b (one_more 0) 0) (sym (none_failed c.args.doors)) refl
