-- The part of a state that rows are made from.
use Rattle.sec_collect.specs.TransactionView.{TransactionView}
use Rattle.sec_meaning.specs.declared.state.PlainState.{PlainState}

abbrev pub view_of : PlainState → TransactionView
view_of s = record {
  request = s.request;
  processor = s.processor;
  body = s.body;
  response = s.response;
  tx = s.tx;
  captured = s.captured;
  matched = s.matched;
}
