use Rattle.sec_collect.specs.Body.{is_form_type}
use Rattle.sec_collect.proofs.body.is_form_type.Goals as goal

pub returns : goal.returns
unfolding is_form_type
returns c = c.is_same_word.ensures
