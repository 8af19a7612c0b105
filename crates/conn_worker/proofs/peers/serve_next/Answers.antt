use Rattle.conn_worker.proofs.Visits.{worked_one, worked_same}
use Rattle.conn_worker.proofs.peers.serve_next.Goals as goal

pub returns-in-Closed-clause-worked : goal.returns-in-Closed-clause-worked
returns-in-Closed-clause-worked g c = worked_same _ _ _ _ _ _ _ _ c.in-Closed.ensures.peer c.in-Closed.ensures.served

pub returns-in-Failed-clause-worked : goal.returns-in-Failed-clause-worked
returns-in-Failed-clause-worked g c = worked_same _ _ _ _ _ _ _ _ c.in-Failed.ensures.peer c.in-Failed.ensures.served

pub returns-in-Peer-clause-worked : goal.returns-in-Peer-clause-worked
returns-in-Peer-clause-worked g c =
    let peer = c.in-Peer in
    let conn = c.serve_conn in
    worked_one _ _ _ _ _ (record { came = (peer.source, peer.sink); went = (conn.new.source, conn.new.sink); how = conn.result }) _ _ _ _ _ _ conn.ensures.served
    (record { read = conn.ensures.read_fault; write = conn.ensures.write_fault }) peer.ensures.peer c.back.ensures.left peer.ensures.served c.back.ensures.served
