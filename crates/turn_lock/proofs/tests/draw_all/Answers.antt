use Rattle.std.proofs.Common.{◌∙◌, subst, sym}
use Rattle.turn_lock.specs.Numbers.{HasDrawn}
use Rattle.turn_lock.proofs.Draws.{draw_more, draw_none}
use Rattle.turn_lock.proofs.tests.draw_all.Goals.{else-loop-test, then-loop-test+then-len-capacity, then-loop-test+else-len-capacity+in-None}
use Rattle.turn_lock.proofs.tests.draw_all.Goals as goal

pub loop-preserved : goal.loop-preserved
loop-preserved g c = (
  (
    (c.act.ensures.lock, c.act.ensures.call.legal),
    λ x. draw_more x c.loop.numbers.items c.push_reserved.new.self.items c.in-Some.number _ _ _ c.act.result c.push_reserved.ensures.items c.act.ensures.call.listed c.in-Some.is (c.loop.invariant.0.1 x),
  ),
  c.act.ensures.call.share ∙ c.loop.invariant.1,
)

pub returns-clause-drawn : goal.returns-clause-drawn
returns-clause-drawn g c = elim c.loop-test.branch [
  | else-loop-test w ↦ subst (λ p. HasDrawn c.args.lock.now p c.loop.numbers.items) (sym w.pass-is) c.loop.invariant.0
  | then-loop-test+then-len-capacity w ↦ subst (λ p. HasDrawn c.args.lock.now p c.loop.numbers.items) (sym w.pass-is) c.loop.invariant.0
  | then-loop-test+else-len-capacity+in-None w ↦ subst (λ p. HasDrawn c.args.lock.now p c.loop.numbers.items) (sym w.pass-is)
      ((w.act.ensures.lock, w.act.ensures.call.legal), λ x. draw_none x c.loop.numbers.items _ _ _ w.act.result w.act.ensures.call.listed w.in-None.is (c.loop.invariant.0.1 x))
]
