use Rattle.conn_loop.proofs.connection.let_go.Goals as goal

pub leave-requires : goal.leave-requires
leave-requires g c = absurd (cc (c.in-Some.ensures.held, c.requires.free))
