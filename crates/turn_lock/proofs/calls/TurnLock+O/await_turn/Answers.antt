use Rattle.std.proofs.Common.{rules, ap, ◌∙◌, subst}
use Rattle.turn_lock.specs.Plays.{HasCome}
use Rattle.turn_lock.proofs.Steps.{look_keeps}
use Rattle.turn_lock.proofs.calls.TurnLock+O.await_turn.Goals as goal

pub load-serving-requires : goal.load-serving-requires
load-serving-requires g c = let same = c.loop.invariant.1 in (
  search rules,
  search rules,
  look_keeps g.O.Object.may g.O.Object.allows g.O.Object.after g.O.Object.kept _ g.O.Object.fits g.met.O.Object.may_fitting _ _ c.loop.pass.me c.requires.turn.1.0
      (ap (λ m. m.0.stage) same ∙ c.requires.turn.1.1) (ap (λ m. m.1) same ∙ c.requires.turn.0),
)

pub returns-then-serving-turn-clause-come : goal.returns-then-serving-turn-clause-come
returns-then-serving-turn-clause-come g c = let same = c.loop.invariant.1 in
    subst (λ v. HasCome g.O.Object.may g.O.Object.allows g.O.Object.after g.O.Object.fits v c.load-serving.new.seat.me) (ap (λ m. m.0) same)
    ((c.load-serving.ensures.2 c.requires.turn.1.0 (ap (λ m. m.0.stage) same ∙ c.requires.turn.1.1)).0 (c.if-serving-turn.true ∙ c.requires.turn.1.2))
