use Rattle.std.proofs.Common.{sym, ◌∙◌}
use Rattle.conn_worker.specs.Serving.{Serves}
use Rattle.conn_worker.proofs.Closings.{read_fails, write_fails}
use Rattle.conn_worker.proofs.serve.serve_conn.Goals as goal

pub returns-clause-read_fault : goal.returns-clause-read_fault
returns-clause-read_fault g c = λ e. c.serve.ensures.read_fault (read_fails Serves c.args.size _ _ c.serve.result c.serve.ensures.served (sym c.closing_of.ensures ∙ e))

pub returns-clause-write_fault : goal.returns-clause-write_fault
returns-clause-write_fault g c = λ e. c.serve.ensures.write_fault (write_fails Serves c.args.size _ _ c.serve.result c.serve.ensures.served (sym c.closing_of.ensures ∙ e))
