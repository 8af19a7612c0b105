-- A state as the definitions see it.
use Rattle.sec_eval.specs.declared.state.State.TheInside.{Inside}
use Rattle.sec_meaning.specs.declared.state.PlainState.{PlainState}

abbrev pub seen : Inside → PlainState
seen s = record {
  engine = s.engine;
  request_body = s.request_body;
  response_body = s.response_body;
  processor = s.vars.processor;
  request = s.vars.request;
  body = s.vars.body;
  response = s.vars.response;
  tx = s.vars.tx;
  captured = s.vars.captured;
  matched = s.vars.matched;
  removed_rules = s.removed_rules;
  next_phase = s.next_phase;
  verdict = s.verdict;
  lines = s.lines;
}
