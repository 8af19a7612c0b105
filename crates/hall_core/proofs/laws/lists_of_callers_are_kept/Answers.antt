use Rattle.hall_core.specs.Promised.{call_of, reply_of}
use Rattle.hall_core.specs.Keeping.{kept_first, kept_call, kept_new, kept_join, may_fitting}
use Rattle.hall_core.proofs.laws.lists_of_callers_are_kept.Goals as goal

pub returns-clause-first : goal.returns-clause-first
returns-clause-first g c s z = kept_first call_of reply_of s z

pub returns-clause-call : goal.returns-clause-call
returns-clause-call g c s lists i own call reply k at f m a = kept_call call_of reply_of s lists i own (call, reply) k at f m a

pub returns-clause-new : goal.returns-clause-new
returns-clause-new g c s lists k = kept_new call_of reply_of s lists k

pub returns-clause-join : goal.returns-clause-join
returns-clause-join g c s lists i j xs ys zs k at ne at' both = kept_join call_of reply_of s lists i j xs ys zs k at ne at' both

pub returns-clause-fits : goal.returns-clause-fits
returns-clause-fits g c s lists i own call k at f = may_fitting call_of reply_of s lists i own call k at f
