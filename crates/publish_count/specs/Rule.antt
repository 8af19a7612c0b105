-- The rule that the word of a count and all its tallies keep.
use Rattle.std.specs.Prelude.{◌≡◌, ℕ, length, slice_index}
use lib.ListN.{get_elem?}
use mathlib.Core.Option.{some}
use Rattle.atomic_table.specs.Table.{State}
use Rattle.turn_lock.specs.History.{total}
use Rattle.turn_lock.specs.View.{all_shares}
use Rattle.publish_count.specs.declared.view.View.{View}
use Rattle.publish_count.specs.Count.{counted}
use Rattle.publish_count.specs.View.{count_in, share_in}

-- the word is 1 and what the tallies added, modulo 2^64. Their shares are all shares, and one without a share, which
-- was joined into another, counts nothing
pub record Counted (s : State (Unit {0}) View) : Type 0 where
  pub one : length s.words ≡ 1
  pub word : slice_index s.words 0 ≡ counted (total count_in s.views)
  pub shares : total share_in s.views ≡ all_shares
  pub spent : (j : ℕ) (v : View) → get_elem? s.views j ≡ some v → v.share ≡ 0 → v.count ≡ 0
