-- The words in which the calls of a count speak.
use Rattle.std.specs.Prelude.{◌≡◌, ℕ, ◌+◌, ◌%◌, ◌<◌, []}
use Rattle.atomic_table.specs.declared.shared.Seat.{Seat}
use Rattle.publish_count.specs.declared.view.View.{View}
use Rattle.publish_count.specs.declared.count.Counting.{Counting}
use Rattle.publish_count.specs.declared.plays.Sums.{Sums}

abbrev pub PublishCount : Type 0
PublishCount = Counting View Sums

abbrev pub Tally : Type 0
Tally = Seat (Unit {0}) View

-- the count after n publishes: it starts at 1, and has 64 bits
abbrev pub counted : ℕ → ℕ
counted n = (1 + n) % 18446744073709551616

-- the publishes that the tally added and did not take back
abbrev pub count_of : Tally → ℕ
count_of t = t.me.0.count

-- its part of all shares
abbrev pub share_of : Tally → ℕ
share_of t = t.me.0.share

-- a tally of this count and no other
abbrev pub IsTallyOf : PublishCount → Tally → Type 0
IsTallyOf c t = (t.table_id ≡ c.table.shared.table_id) × (t.me.1 ≡ []) × (0 < share_of t)
