use Rattle.std.proofs.Common.{refl}
use Rattle.workload.proofs.Steps.{at_six, six_drawn}
use Rattle.workload.proofs.turn.Turn.drawn.Goals as goal

pub returns-clause-turn : goal.returns-clause-turn
returns-clause-turn c = λ seed was.
    six_drawn seed _ c.args.draws.now.held c.next.new.self.held c.next-2.new.self.held c.next-3.new.self.held c.next-4.new.self.held c.next-5.new.self.held c.next-6.new.self.held was
    c.next.ensures.step c.next-2.ensures.step c.next-3.ensures.step c.next-4.ensures.step c.next-5.ensures.step c.next-6.ensures.step
    c.args.number c.next.result c.next-2.result c.next-3.result c.next-4.result c.next-5.result c.next-6.result refl
    c.next.ensures.draw c.next-2.ensures.draw c.next-3.ensures.draw c.next-4.ensures.draw c.next-5.ensures.draw c.next-6.ensures.draw

pub returns-clause-held : goal.returns-clause-held
returns-clause-held c = λ seed was.
    at_six seed _ c.args.draws.now.held c.next.new.self.held c.next-2.new.self.held c.next-3.new.self.held c.next-4.new.self.held c.next-5.new.self.held c.next-6.new.self.held was
    c.next.ensures.step c.next-2.ensures.step c.next-3.ensures.step c.next-4.ensures.step c.next-5.ensures.step c.next-6.ensures.step
