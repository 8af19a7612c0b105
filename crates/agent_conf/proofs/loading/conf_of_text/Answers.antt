use Rattle.agent_conf.proofs.Few.{manned_read}
use Rattle.agent_conf.proofs.loading.conf_of_text.Goals as goal

pub returns-in-Ok-clause-shards : goal.returns-in-Ok-clause-shards
returns-in-Ok-clause-shards c = (manned_read c.args.text.now c.in-Ok.conf c.in-Ok.ensures).0

pub returns-in-Ok-clause-workers : goal.returns-in-Ok-clause-workers
returns-in-Ok-clause-workers c = (manned_read c.args.text.now c.in-Ok.conf c.in-Ok.ensures).1
