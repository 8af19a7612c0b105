use Rattle.std.proofs.Common.{◌∷◌, ap, refl}
use Rattle.conn_core.specs.Stands.{ConnView}
use Rattle.conn_core.proofs.Inner.{fallen, request_good}
use Rattle.conn_core.proofs.conn.Conn.take_request.Goals as goal

pub returns-in-Ok-clause-done : goal.returns-in-Ok-clause-done
returns-in-Ok-clause-done g c = λ f s p.
    c.ask.ensures.next s (request_good c.args.self.now s c.requires.at c.args.message c.in-Ok.asked c.requires.named (rw c.args_of.ensures at c.in-Ok.ensures).0 (rw c.args_of.ensures at c.in-Ok.ensures).1 p)

pub returns-in-Err-Bad-clause-done : goal.returns-in-Err-Bad-clause-done
returns-in-Err-Bad-clause-done g c = λ f s p.
    let new = c.add.ensures.err f in
    fallen (record c.args.self.now { left = c.args.message ∷ c.args.self.now.left }) c.add.new.self s
    (ap (λ (h : ConnView g.row.R.Denot g.row.P.Denot g.row.T.Denot). h.stage) new) (ap (λ (h : ConnView g.row.R.Denot g.row.P.Denot g.row.T.Denot). h.broken) new) (ap (λ (h : ConnView g.row.R.Denot g.row.P.Denot g.row.T.Denot). h.hold) new) (c.add.ensures.none f) p

pub returns-in-Err-NoMemory-clause-done : goal.returns-in-Err-NoMemory-clause-done
returns-in-Err-NoMemory-clause-done g c = λ f s p.
    fallen (record c.args.self.now { left = c.args.message ∷ c.args.self.now.left }) c.out_of_memory.new.self s (rw c.out_of_memory.ensures.next refl) (rw c.out_of_memory.ensures.next refl) (rw c.out_of_memory.ensures.next refl) c.out_of_memory.ensures.none p
