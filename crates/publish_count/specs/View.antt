-- What a tally knows, and how that is split and joined.
use Rattle.std.specs.Prelude.{ℕ, ◌+◌, ◌-◌}
use Rattle.turn_lock.specs.View.{all_shares}
use Rattle.publish_count.specs.declared.view.View.{View}

-- the publishes that it added and did not take back
abbrev pub count_in : View → ℕ
count_in v = v.count

-- its part of all shares
abbrev pub share_in : View → ℕ
share_in v = v.share

-- of the first tally
abbrev pub first_view : View
first_view = record { count = 0; share = all_shares }

-- of a tally that was split
abbrev pub split_old : View → View
split_old v = record v { share = v.share - 1 }

-- of the new tally
abbrev pub split_new : View → View
split_new v = record { count = 0; share = 1 }

-- of a tally that took in another
abbrev pub joined : View → View → View
joined v w = record { count = v.count + w.count; share = v.share + w.share }

-- of that other
abbrev pub spent_view : View
spent_view = record { count = 0; share = 0 }
