use Rattle.ip_set.proofs.Computed.{block_is}
use Rattle.ip_set.proofs.block.Block.read.Goals as goal

pub returns-clause-block : goal.returns-clause-block
returns-clause-block c = block_is c.args.word.now c.read_word.result c.read_word.ensures
