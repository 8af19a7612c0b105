use Rattle.std.proofs.Common.{arith}
use Rattle.agent_serve.proofs.Shares.{first_shares, opened_empty}
use Rattle.agent_serve.proofs.opening.open.Goals as goal

pub crew_of-requires-clause-whole : goal.crew_of-requires-clause-whole
crew_of-requires-clause-whole c = record {
  desk = c.in_ok-desk.ensures.pass.0;
  rules = c.in_ok-rules.ensures.0;
  desk_shares = first_shares c.args.capacity c.in_ok-desk.desk c.in_ok-desk.desk_pass c.in_ok-desk.ensures.pass.0 c.in_ok-desk.ensures.pass.1;
  rules_share = (let all = c.in_ok-rules.ensures.1.share in omega (arith, all));
}

pub returns : goal.returns
returns c = record {
  shards_are = c.in_ok-desk.ensures.shards;
  empty = opened_empty c.args.capacity c.in_ok-desk.desk c.in_ok-desk.desk_pass c.in_ok-desk.ensures.pass.0 c.in_ok-desk.ensures.pass.1;
  given = c.in_ok-rules.ensures.1.opened;
  manned = c.in_ok-crew.ensures;
}
