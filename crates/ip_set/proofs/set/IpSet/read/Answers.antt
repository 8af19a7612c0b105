use Rattle.std.proofs.Common.{◌≡◌, ℕ, ◌≤◌, List, length, take, subst, ap, arith}
use Rattle.std.specs.List.{AllZip}
use Rattle.std.proofs.lemmas.List.{take_all}
use Rattle.ip_set.specs.declared.block.Block.{Block}
use Rattle.ip_set.specs.Blocks.{IsWord}
use Rattle.ip_set.proofs.Words.{zip_turn, good_turn, same_members, none_bad}
use Rattle.ip_set.proofs.Computed.{same_test}
use Rattle.ip_set.proofs.set.IpSet.read.Goals as goal

pub loop-at-preserved : goal.loop-at-preserved
loop-at-preserved c =
    let word = rw c.as_slice.ensures at c.in-Some.ensures.word in
    let i = c.loop-at.invariant in
    let items = c.as_slice-word-items.result.now in
    let same = c.as_slice-word-items.ensures in
    record {
      zip = zip_turn c.args.words.now items c.loop-at.blocks.items _ c.loop-at.at c.word-item.result c.in-Some.block same (omega arith) c.word-item.is word i.zip c.in-Ok.ensures.items;
      good = good_turn c.args.words.now items c.loop-at.at c.word-item.result c.in-Some.block same (omega arith) c.word-item.is word i.good;
    }

-- the words that were read are all of them
all_read : (words items : List (List ℕ)) (blocks : List Block) (i : ℕ) → items ≡ words → length items ≤ i → AllZip IsWord (take i words) blocks → AllZip IsWord words blocks
all_read words items blocks i same past zip = subst (λ (l : List (List ℕ)). AllZip IsWord l blocks) (take_all i words (omega (arith, past, ap length same))) zip

pub returns-clause-members : goal.returns-clause-members
returns-clause-members c =
    same_members c.args.words.now c.from_vec.result
    (rw c.from_vec.ensures (all_read c.args.words.now c.as_slice-word-items.result.now c.loop-at.blocks.items c.loop-at.at c.as_slice-word-items.ensures (omega arith) c.loop-at.invariant.zip))

pub returns-clause-test : goal.returns-clause-test
returns-clause-test c = same_test c.args.words.now c.from_vec.result (returns-clause-members c)

pub returns-clause-refused : goal.returns-clause-refused
returns-clause-refused c = λ at bad.
    none_bad c.args.words.now c.loop-at.blocks.items at
    (all_read c.args.words.now c.as_slice-word-items.result.now c.loop-at.blocks.items c.loop-at.at c.as_slice-word-items.ensures (omega arith) c.loop-at.invariant.zip)
    bad.0 bad.1
