-- The statuses of refusals.
use Rattle.std.proofs.Common.{◌≡◌, ℕ, ◌≤◌, Bool, true, false, cond, ◌||◌, ltb, min, codes, List, Option, Some, None, Result, Ok, Err, IsErrOf, arith}
use Rattle.spop_hello.specs.declared.terms.Terms.{Terms}
use Rattle.spop_hello.specs.declared.terms.Refuse as refusals
use Rattle.spop_hello.specs.declared.terms.Refuse.TheVariants as refusal
use Rattle.spop_hello.specs.Items.{has_item, is_pipelining, is_version}
use Rattle.spop_hello.specs.Client.{text_of, size_of, is_true, value_of}
use Rattle.spop_hello.specs.Terms.{sized, decided, agreed, IsRefusal, Settles}
use Rattle.spop_data.specs.declared.value.Pair.{Pair}

-- a refusal has a status from 4 to 9
abbrev pub InRange : Result Terms ℕ → Type 0
InRange (Ok terms) = Unit {0}
InRange (Err status) = (4 ≤ status) × (status ≤ 9)

either : (b : Bool) (x y : Result Terms ℕ) → InRange x → InRange y → InRange (cond b x y)
either true x y p q = p
either false x y p q = q

sized_range : (own size : ℕ) (pipelining check : Bool) → InRange (sized own size pipelining check)
sized_range own size pipelining check =
    let nine : InRange (Err 9) = (omega arith, omega arith) in
    either (ltb size 256 || ltb 4294967295 size) (Err 9) (Ok (record { size = min own size; pipelining = pipelining; check = check })) nine tt

decided_range : (own : ℕ) (versions : Option (List ℕ)) (size : Option ℕ) (capabilities : Option (List ℕ)) (check : Bool) → InRange (decided own versions size capabilities check)
decided_range own None size capabilities check = (omega arith, omega arith)
decided_range own (Some v) None capabilities check = (omega arith, omega arith)
decided_range own (Some v) (Some s) None check = (omega arith, omega arith)
decided_range own (Some v) (Some s) (Some c) check =
    let eight : InRange (Err 8) = (omega arith, omega arith) in
    either (has_item is_version v) (sized own s (has_item is_pipelining c) check) (Err 8) (sized_range own s (has_item is_pipelining c) check) eight

settled : (r : Result Terms refusals.Refuse) (wanted : Result Terms ℕ) → InRange wanted → Settles r wanted → (status : ℕ) → IsErrOf r (refusal.Status status) → IsRefusal status
settled (Ok terms) wanted range s status is = absurd cc
settled (Err (refusal.Status n)) (Ok terms) range s status is = absurd cc
settled (Err (refusal.Status n)) (Err m) range s status is =
    let same : m ≡ n = cc s in
    let wanted_is : n ≡ status = cc is in
    (omega (arith, range.0, same, wanted_is), omega (arith, range.1, same, wanted_is))
settled (Err refusal.NoMemory) wanted range s status is = absurd cc

pub agreed_range : (own : ℕ) (ps : List Pair) (r : Result Terms refusals.Refuse) → Settles r (agreed own ps) → (status : ℕ) → IsErrOf r (refusal.Status status) → IsRefusal status
agreed_range own ps r s = settled r (agreed own ps) (decided_range own (text_of (value_of (codes "supported-versions") ps)) (size_of (value_of (codes "max-frame-size") ps))
    (text_of (value_of (codes "capabilities") ps)) (is_true (value_of (codes "healthcheck") ps))) s
