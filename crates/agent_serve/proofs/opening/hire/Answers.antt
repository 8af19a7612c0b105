use Rattle.std.proofs.Common.{arith}
use Rattle.agent_serve.proofs.Shares.{may_split, shares_left}
use Rattle.agent_serve.proofs.opening.hire.Goals as goal

pub split-requires-clause-share : goal.split-requires-clause-share
split-requires-clause-share c = may_split c.args.desk_pass.now c.requires.desk_shares

pub returns-clause-left : goal.returns-clause-left
returns-clause-left c = λ n is. record {
  desk = c.split.ensures.old;
  rules = c.split-2.ensures.shelf.0;
  desk_shares = shares_left n c.args.desk.now c.args.desk_pass.now c.split.new.pass c.in_ok-split.field-0 is.desk c.split.ensures.old c.in_ok-split.ensures.new c.in_ok-split.ensures.split is.desk_shares;
  rules_share = (let has = is.rules_share in let less = c.split-2.ensures.old.2 in omega (arith, has, less));
}
