use Rattle.sec_decoders.proofs.Escapes.{url_again, entity_again, js_again, css_again, sequence_again, plain_again}
use Rattle.sec_decoders.proofs.laws.escapes_are_read.Goals as goal

pub returns-clause-url : goal.returns-clause-url
returns-clause-url c = url_again

pub returns-clause-entity : goal.returns-clause-entity
returns-clause-entity c = entity_again

pub returns-clause-javascript : goal.returns-clause-javascript
returns-clause-javascript c = js_again

pub returns-clause-style : goal.returns-clause-style
returns-clause-style c = css_again

pub returns-clause-escape : goal.returns-clause-escape
returns-clause-escape c = sequence_again

pub returns-clause-plain : goal.returns-clause-plain
returns-clause-plain c = plain_again
