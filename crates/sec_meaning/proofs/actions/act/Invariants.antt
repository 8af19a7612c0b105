use Rattle.std.proofs.Common.{◌≡◌, drop}
use Rattle.std.specs.List.{fold}
use Rattle.sec_meaning.specs.Links.{set_variable, control}
use Rattle.sec_meaning.proofs.actions.act.Given as goal

abbrev pub invariant-loop-setvar : goal.invariant-loop-setvar
invariant-loop-setvar g l =
    let seen = g.S.Transaction.seen in
    fold set_variable (seen l.state) (drop l.setvar-index l.link.setvars) ≡ fold set_variable (seen l.fn.state) l.link.setvars

abbrev pub invariant-loop-ctl : goal.invariant-loop-ctl
invariant-loop-ctl g l =
    let seen = g.S.Transaction.seen in
    fold control (seen l.state) (drop l.ctl-index l.link.ctls) ≡ fold control (fold set_variable (seen l.fn.state) l.link.setvars) l.link.ctls
