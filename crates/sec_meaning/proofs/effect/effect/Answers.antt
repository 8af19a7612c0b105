use Rattle.sec_meaning.proofs.Effects.{flow_is, state_is}
use Rattle.sec_meaning.proofs.effect.effect.Goals as goal

pub returns-clause-flow : goal.returns-clause-flow
returns-clause-flow c =
    flow_is c.matched_effect.result c.args.rule.now c.as_slice.result.now c.args.state.now c.after_links.new.state c.in_ok-holds.holds
    c.as_slice.ensures c.in_ok-holds.ensures.holds c.in_ok-holds.ensures.state c.matched_effect.ensures.flow

pub returns-clause-state : goal.returns-clause-state
returns-clause-state c =
    state_is c.matched_effect.result c.args.rule.now c.as_slice.result.now c.args.state.now c.after_links.new.state c.matched_effect.new.state c.in_ok-holds.holds
    c.as_slice.ensures c.in_ok-holds.ensures.holds c.in_ok-holds.ensures.state c.matched_effect.ensures.state
