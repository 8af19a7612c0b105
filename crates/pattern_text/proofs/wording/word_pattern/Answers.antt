use Rattle.std.proofs.Common.{sym, ◌∙◌}
use Rattle.pattern_text.proofs.Turns.{begun, ended, none_left, open_class, some_left, stopped, turned}
use Rattle.pattern_text.proofs.wording.word_pattern.Goals as goal

pub loop-rest-init : goal.loop-rest-init
loop-rest-init c = begun c.in_ok-out.out c.args.pattern.now c.in_ok-out.ensures

pub returns-in_default-clause-unsupported : goal.returns-in_default-clause-unsupported
returns-in_default-clause-unsupported c = λ _.
    stopped c.loop-rest.place c.loop-rest.out c.loop-rest.rest.now _ c.loop-rest.invariant
    (some_left c.loop-rest.rest.now (sym c.is_empty.ensures ∙ c.loop-rest-test.true)) c.in_default.ensures.token

pub loop-rest-preserved : goal.loop-rest-preserved
loop-rest-preserved c =
    rw (c.split_at.ensures.back)
    (turned c.loop-rest.place c.in-Some.token c.loop-rest.out c.write.new.out c.loop-rest.rest.now _ c.loop-rest.invariant
    (some_left c.loop-rest.rest.now (sym c.is_empty.ensures ∙ c.loop-rest-test.true)) c.in-Some.ensures.token
    (c.in-Some.ensures.fits.0) (rw c.split_at.ensures.front at c.in_ok-write.ensures))

pub returns-in-Outside-clause-worded : goal.returns-in-Outside-clause-worded
returns-in-Outside-clause-worded c =
    ended c.loop-rest.place c.loop-rest.out c.loop-rest.rest.now _ c.loop-rest.invariant
    (none_left c.loop-rest.rest.now (sym c.is_empty.ensures ∙ c.loop-rest-test.false)) c.in-Outside.is

pub returns-in_default-place : goal.returns-in_default-place
returns-in_default-place c = record {
  worded = tt;
  unsupported = λ _.
      open_class c.loop-rest.place c.loop-rest.out c.loop-rest.rest.now _ c.loop-rest.invariant
      (none_left c.loop-rest.rest.now (sym c.is_empty.ensures ∙ c.loop-rest-test.false)) c.in_default-place.not-Outside;
}
