use Rattle.conn_core.proofs.heard.heard_in.Goals as goal

pub returns-in-Some-clause-hears : goal.returns-in-Some-clause-hears
returns-in-Some-clause-hears c = rw c.in-Some.is (c.after_hello.ensures.hears c.args.size c.in-Some.field-0)
