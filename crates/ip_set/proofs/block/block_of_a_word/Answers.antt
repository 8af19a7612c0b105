use Rattle.ip_set.proofs.Computed.{names_block}
use Rattle.ip_set.proofs.block.block_of_a_word.Goals as goal

pub returns : goal.returns
returns c = names_block
