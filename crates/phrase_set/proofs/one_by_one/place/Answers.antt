use Rattle.memchr.proofs.lemmas.ValueLemmas.{FindsNeedle-value}
use Rattle.phrase_set.specs.Phrases.{place_of}
use Rattle.phrase_set.proofs.one_by_one.place.Goals as goal

pub returns-clause-value : goal.returns-clause-value
unfolding place_of
returns-clause-value c = FindsNeedle-value c.args.text.now c.args.needle.now c.find.result c.find.ensures
