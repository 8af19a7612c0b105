-- What holds of the doors and the members of a crew that has done its work.
use Rattle.std.proofs.Common.{◌≡◌, ℕ, zero, suc, ◌+◌, ◌≤◌, ◌<◌, ◌∷◌, ◌++◌, [], List, length, take, drop, if◌then◌else◌, ◌||◌, Bool, true, false, Option, cond, nat_le, inl, inr, refl, ap, arith}
use Rattle.std.specs.List.{All, list_any}
use Rattle.std.proofs.lemmas.Bool.Decides.{nat_tests}
use Rattle.waf_io.specs.Counts.{Rose, one_more}
use Rattle.waf_io.specs.Doors.{HasEnded, after_faults}
use Rattle.conn_worker.specs.declared.peers.WorkEnd as end
use Rattle.conn_worker.specs.declared.peers.WorkEnd.TheVariants as ends
use Rattle.conn_worker.specs.Entries.{Hall, Shelf}
use Rattle.conn_worker.specs.Worked.{CountsEnd}
use Rattle.crew.specs.Served.{Each}
use Rattle.reports.specs.declared.exit_status.TheConstants.{DONE, DOOR_FAULT}
use Rattle.control.specs.declared.obeying.ControlEnd as control
use Rattle.control.specs.declared.obeying.ControlEnd.TheVariants as controls
use Rattle.agent_serve.specs.ServedOn.{status_of}
use Rattle.agent_serve.specs.Crew.{Did, DoorSight, IsMember, Member, is_failed}

pub all_cons : {A : Type 0} (F : A → Type 0) (a : A) (xs : List A) → F a → All F xs → All F (a ∷ xs)
all_cons F a xs is all zero d lt = is
all_cons F a xs is all (suc k) d lt = all k d (omega arith)

rose_is : (before now : ℕ) → Rose before now → 0 < now
rose_is before now rose = omega (arith, rose)

more_is : (before now : ℕ) → now ≡ one_more before → 0 < now
more_is before now more = omega (arith, more)

one_at_least : (n : ℕ) → 0 < n → nat_le 1 n ≡ true
one_at_least zero lt = absurd (omega (arith, lt))
one_at_least (suc n) lt = grind (arith, nat_tests)

either_then : (a b c d : Bool) → (a ≡ true → c ≡ true) → (b ≡ true → d ≡ true) → (a || b) ≡ true → (c || d) ≡ true
either_then true b true d f g is = refl
either_then true b false d f g is = absurd (cc (f refl))
either_then false b true d f g is = refl
either_then false b false d f g is = g is

module _ {D I O : Type 0} (hall : Hall) (shelf : Shelf) (told : Option ℕ) (size : ℕ) (sight : DoorSight D I O) where
  abbrev pub DidAt : ℕ → D → D → Member → Member → Type 0
  DidAt number d e m n = Did hall shelf told size sight d e m n

  ended_by : (how : end.WorkEnd) (d e : D) → CountsEnd how (sight.closings d) (sight.closings e)
      → (how ≡ ends.DoorFault → Rose (sight.faults d) (sight.faults e)) → HasEnded sight.faults sight.closings e
  ended_by ends.Closed d e counts rose = inl (more_is (sight.closings d) (sight.closings e) counts)
  ended_by ends.DoorFault d e counts rose = inr (rose_is (sight.faults d) (sight.faults e) (rose refl))

  pub count_is : (k : ℕ) (ds es : List D) (ms ns : List Member) → Each DidAt k ds es ms ns → length es ≡ length ds
  count_is k [] [] [] [] is = refl
  count_is k (d ∷ ds) (e ∷ es) (m ∷ ms) (n ∷ ns) is = ap suc (count_is (k + 1) ds es ms ns is.1)
  count_is k [] [] [] (n ∷ ns) is = absurd is
  count_is k [] [] (m ∷ ms) ns is = absurd is
  count_is k [] (e ∷ es) ms ns is = absurd is
  count_is k (d ∷ ds) [] ms ns is = absurd is
  count_is k (d ∷ ds) (e ∷ es) [] ns is = absurd is
  count_is k (d ∷ ds) (e ∷ es) (m ∷ ms) [] is = absurd is

  pub all_ended : (k : ℕ) (ds es : List D) (ms ns : List Member) → Each DidAt k ds es ms ns → All (HasEnded sight.faults sight.closings) es
  all_ended k [] [] [] [] is = λ j d lt. absurd (omega arith)
  all_ended k (d ∷ ds) (e ∷ es) (m ∷ ms) (n ∷ ns) is =
      all_cons (HasEnded sight.faults sight.closings) e es (ended_by n.end d e is.0.closed is.0.cause) (all_ended (k + 1) ds es ms ns is.1)
  all_ended k [] [] [] (n ∷ ns) is = absurd is
  all_ended k [] [] (m ∷ ms) ns is = absurd is
  all_ended k [] (e ∷ es) ms ns is = absurd is
  all_ended k (d ∷ ds) [] ms ns is = absurd is
  all_ended k (d ∷ ds) (e ∷ es) [] ns is = absurd is
  all_ended k (d ∷ ds) (e ∷ es) (m ∷ ms) [] is = absurd is

  pub members_are : (k : ℕ) (ds es : List D) (ms ns : List Member) → Each DidAt k ds es ms ns → All (IsMember hall shelf) ns
  members_are k [] [] [] [] is = λ j d lt. absurd (omega arith)
  members_are k (d ∷ ds) (e ∷ es) (m ∷ ms) (n ∷ ns) is = all_cons (IsMember hall shelf) n ns is.0.member (members_are (k + 1) ds es ms ns is.1)
  members_are k [] [] [] (n ∷ ns) is = absurd is
  members_are k [] [] (m ∷ ms) ns is = absurd is
  members_are k [] (e ∷ es) ms ns is = absurd is
  members_are k (d ∷ ds) [] ms ns is = absurd is
  members_are k (d ∷ ds) (e ∷ es) [] ns is = absurd is
  members_are k (d ∷ ds) (e ∷ es) (m ∷ ms) [] is = absurd is

  failed_here : (how : end.WorkEnd) (d e : D) → (how ≡ ends.DoorFault → Rose (sight.faults d) (sight.faults e)) → is_failed how ≡ true
      → nat_le 1 (sight.faults e) ≡ true
  failed_here ends.Closed d e rose is = absurd (cc is)
  failed_here ends.DoorFault d e rose is = one_at_least (sight.faults e) (rose_is (sight.faults d) (sight.faults e) (rose refl))

  -- a door of a member that failed has failed
  pub any_failed : (k : ℕ) (ds es : List D) (ms ns : List Member) → Each DidAt k ds es ms ns → list_any (λ n. is_failed n.end) ns ≡ true
      → list_any (λ e. nat_le 1 (sight.faults e)) es ≡ true
  any_failed k [] [] [] [] is some = absurd (cc some)
  any_failed k (d ∷ ds) (e ∷ es) (m ∷ ms) (n ∷ ns) is some =
      either_then (is_failed n.end) (list_any (λ n. is_failed n.end) ns) (nat_le 1 (sight.faults e)) (list_any (λ e. nat_le 1 (sight.faults e)) es)
      (failed_here n.end d e is.0.cause) (any_failed (k + 1) ds es ms ns is.1) some
  any_failed k [] [] [] (n ∷ ns) is some = absurd is
  any_failed k [] [] (m ∷ ms) ns is some = absurd is
  any_failed k [] (e ∷ es) ms ns is some = absurd is
  any_failed k (d ∷ ds) [] ms ns is some = absurd is
  any_failed k (d ∷ ds) (e ∷ es) [] ns is some = absurd is
  any_failed k (d ∷ ds) (e ∷ es) (m ∷ ms) [] is some = absurd is

-- ---- the status

either_status : (b : Bool) → (if b then DOOR_FAULT else DONE) ≡ DOOR_FAULT → b ≡ true
either_status true is = refl
either_status false is = absurd (cc is)

pub failed_by : (how : control.ControlEnd) (crew : List Member) → status_of how crew ≡ DOOR_FAULT → list_any (λ m. is_failed m.end) crew ≡ true
failed_by controls.ReadFault crew is = absurd (cc is)
failed_by controls.WriteFault crew is = absurd (cc is)
failed_by controls.Stopped crew is = either_status _ is
failed_by controls.Ended crew is = either_status _ is

-- ---- doors that came back

-- what a slice over all doors left is all doors
pub back_is : {A : Type 0} (xs ys : List A) → length ys ≡ length xs → take (length xs) (ys ++ drop (length ys) xs) ≡ ys
back_is [] [] same = refl
back_is (x ∷ xs) (y ∷ ys) same = ap (λ zs. y ∷ zs) (back_is xs ys (omega (arith, same)))
back_is [] (y ∷ ys) same = absurd (omega (arith, same))
back_is (x ∷ xs) [] same = absurd (omega (arith, same))

counted_in : (b : Bool) (before mid now : ℕ) → b ≡ true → before ≤ mid → now ≡ cond b (one_more mid) mid → Rose before now
counted_in true before mid now is later counts = omega (arith, later, counts)
counted_in false before mid now is later counts = absurd (cc is)

pub rose_by : {D : Type 0} (faults : D → ℕ) (doors : List D) (before mid now : ℕ) → list_any (λ door. nat_le 1 (faults door)) doors ≡ true → before ≤ mid
    → now ≡ after_faults faults doors mid → Rose before now
rose_by faults doors before mid now is later counts = counted_in (list_any (λ door. nat_le 1 (faults door)) doors) before mid now is later counts
