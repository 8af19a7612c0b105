-- What each kind of step tells.
use Rattle.std.specs.Prelude.{◌≡◌, ℕ, ◌+◌, ◌-◌}
use Rattle.atomic_table.specs.Table.{Me, Step}
use Rattle.turn_lock.specs.View.{all_shares}
use Rattle.publish_count.specs.declared.view.View.{View}
use Rattle.publish_count.specs.Count.{counted}

-- the tally counts one more
abbrev pub Added : Step (Unit {0}) → Me (Unit {0}) View → ℕ → Me (Unit {0}) View → Type 0
Added st m n m' = (m'.1 ≡ m.1) × (m'.0 ≡ record m.0 { count = m.0.count + 1 })

-- the tally counts one less
abbrev pub TakenBack : Step (Unit {0}) → Me (Unit {0}) View → ℕ → Me (Unit {0}) View → Type 0
TakenBack st m n m' = (m'.1 ≡ m.1) × (m'.0 ≡ record m.0 { count = m.0.count - 1 })

-- nothing changed. With all shares the tally knows the count
abbrev pub Glanced : Step (Unit {0}) → Me (Unit {0}) View → ℕ → Me (Unit {0}) View → Type 0
Glanced st m n m' = (m' ≡ m) × (m.0.share ≡ all_shares → n ≡ counted m.0.count)
