use Rattle.std.proofs.Common.{rules, ◌+◌, arith}
use Rattle.agent_serve.specs.Crew.{IsMember}
use Rattle.agent_serve.proofs.Shares.{all_more, fewer}
use Rattle.agent_serve.proofs.opening.crew_of.Goals as goal

pub loop-init : goal.loop-init
loop-init c = record {
  room = search rules;
  count = search rules;
  members = search rules;
  shared = λ n le. fewer n 65 c.args.desk.now c.args.desk_pass.now c.args.rules.now c.args.rules_pass.now (omega arith) c.requires.whole;
}

pub loop-preserved : goal.loop-preserved
loop-preserved c = record {
  room = search rules;
  count = search rules;
  members = all_more (IsMember c.args.desk.now c.args.rules.now) c.loop.crew.items _ c.in_ok-hire.field-0 c.push_reserved.ensures.items c.loop.invariant.members c.in_ok-hire.ensures.member;
  shared = λ n le. c.in_ok-hire.ensures.left n (c.loop.invariant.shared (n + 1) (omega arith));
}

pub hire-requires : goal.hire-requires
hire-requires c = c.loop.invariant.shared 2 (let few = c.requires.few in let test = c.loop-test.true in omega (arith, few, test))

pub returns : goal.returns
returns c = let last = c.loop.invariant.shared 0 (let few = c.requires.few in let end = c.loop.auto.counter-end in omega (arith, few, end)) in record {
  desk = last.desk;
  rules = last.rules;
  count = (let count = c.loop.invariant.count in let past = c.loop-test.false in let end = c.loop.auto.counter-end in omega (arith, count, past, end));
  members = c.loop.invariant.members;
}
