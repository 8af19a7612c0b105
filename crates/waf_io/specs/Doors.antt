-- What is opened, and what comes back.
use Rattle.std.specs.Prelude.{◌≡◌, ◌⊎◌, ◌<◌, ◌+◌, ℕ, List, [], ◌++◌, length, Option, Some, None, IfSome, Bool, false, cond, nat_le}
use Rattle.std.specs.List.{All, list_any}
use Rattle.waf_io.specs.Counts.{one_more}
use Rattle.waf_io.specs.declared.doors.Opened as opened
use Rattle.waf_io.specs.declared.doors.Opened.TheVariants.{Doors, Failed, NoMemory}

-- a door that was not used: its counts are 0, no peer is out, and none came back
abbrev pub IsNew : {D P : Type 0} → (D → Option (List P)) → (D → Bool) → (D → ℕ) → (D → ℕ) → D → Type 0
IsNew served is_out faults closings door =
    IfSome (served door) (λ peers. peers ≡ []) × (is_out door ≡ false) × (faults door ≡ 0) × (closings door ≡ 0)

-- as many doors as were asked for, all of them new, are out besides
abbrev pub AreOpened : {D : Type 0} → (D → Type 0) → opened.Opened D → ℕ → ℕ → ℕ → Type 0
AreOpened is_new (Doors doors) count before now = (length doors ≡ count) × All is_new doors × (now ≡ before + count)
AreOpened is_new Failed count before now = now ≡ before
AreOpened is_new NoMemory count before now = now ≡ before

-- the door has closed, or has failed
abbrev pub HasEnded : {D : Type 0} → (D → ℕ) → (D → ℕ) → D → Type 0
HasEnded faults closings door = (0 < closings door) ⊎ (0 < faults door)

-- what is told now was told before, but for those at its end, which came now
abbrev pub KeepsAll : {A : Type 0} → Option (List A) → List A → Option (List A) → Type 0
KeepsAll before came (Some now) = (held : List _) × (before ≡ Some held) × (now ≡ held ++ came)
KeepsAll before came None = Unit {0}

-- one more where one of the doors has failed
abbrev pub after_faults : {D : Type 0} → (D → ℕ) → List D → ℕ → ℕ
after_faults faults doors before = cond (list_any (λ door. nat_le 1 (faults door)) doors) (one_more before) before
