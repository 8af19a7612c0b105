-- Words that name addresses.
use Rattle.std.proofs.Common.{◌≡◌, List, ℕ, Option, ap}
use Rattle.std.specs.Prelude.{MatchOption, is_some}
use Rattle.ip_set.specs.declared.block.Block.{Block}
use Rattle.ip_set.specs.Blocks.{IsWord}
use Rattle.ip_set.proofs.Computed.{block_is}
use Rattle.sec_read.specs.Operators.{is_address_word}

pub word_is : (word : List ℕ) (o : Option Block) → MatchOption o ((b : Block) → ¬ IsWord word b) (λ b. IsWord word b) → is_some o ≡ is_address_word word
word_is word o is = ap is_some (block_is word o is)
