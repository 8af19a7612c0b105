use Rattle.std.proofs.Common.{refl, ◌∙◌, arith}
use Rattle.conn_loop.proofs.Moving.{acts_none, acts_on, progresses_on}
use Rattle.conn_loop.proofs.connection.advance.Goals as goal

pub loop-progress-init : goal.loop-progress-init
loop-progress-init g c = record { acts = acts_none g.H.Host.serves _ _ _; held = c.requires.held; fixed = refl; ready = c.requires.ready; later = omega arith }

pub step-requires : goal.step-requires
step-requires g c =
    let r = c.requires.runs in
    let x = c.loop-progress.invariant.acts r.0 r.1 r.2 r.3 in
    record { runs = (r.0, r.1, x.state, x.runs); held = c.loop-progress.invariant.held; ready = c.loop-progress.invariant.ready }

pub returns-in-Some-clause-progresses : goal.returns-in-Some-clause-progresses
returns-in-Some-clause-progresses g c = progresses_on c.in-Some.progress g.H.Host.serves _ _ _ _ _ _ _ _ _ c.loop-progress.invariant.acts c.in-Some.ensures.stepped

pub loop-progress-preserved : goal.loop-progress-preserved
loop-progress-preserved g c = record {
  acts = acts_on g.H.Host.serves _ _ _ _ _ _ _ _ _ c.loop-progress.invariant.acts c.in_default.ensures.stepped;
  held = c.in_default.ensures.held;
  fixed = c.in_default.ensures.fixed ∙ c.loop-progress.invariant.fixed;
  ready = c.in_default.ensures.ready;
  later = omega (arith, c.loop-progress.invariant.later, c.step.ensures.later);
}
