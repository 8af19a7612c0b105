-- What the client's HELLO is answered with (SPOE.txt, 3.2.4 and 3.2.5).
use Rattle.std.specs.Prelude.{◌≡◌, ◌≤◌, ℕ, ◌||◌, Bool, min, List, nat_lt, if◌then◌else◌, Option, Some, None, Result, Ok, Err, codes}
use Rattle.spop_data.specs.Lists.{all_of}
use Rattle.spop_data.specs.Reading.{pair_at}
use Rattle.spop_data.specs.declared.value.Pair.{Pair}
use Rattle.spop_frame.specs.declared.status.TheConstants.{INVALID, NO_VERSIONS, NO_SIZE, NO_CAPABILITIES, BAD_VERSION, BAD_SIZE}
use Rattle.spop_hello.specs.declared.terms.TheConstants.{MIN_SIZE, MAX_SIZE}
use Rattle.spop_hello.specs.declared.terms.Terms.{Terms}
use Rattle.spop_hello.specs.declared.terms.Refuse as refusals
use Rattle.spop_hello.specs.declared.terms.Refuse.TheVariants as refusal
use Rattle.spop_hello.specs.Items.{has_item, is_pipelining, is_version}
use Rattle.spop_hello.specs.Client.{is_true, size_of, text_of, value_of}

-- the lesser of both sizes
abbrev pub sized : ℕ → ℕ → Bool → Bool → Result Terms ℕ
sized own size pipelining check =
    if nat_lt size MIN_SIZE || nat_lt MAX_SIZE size then Err BAD_SIZE
    else Ok (record { size = min own size; pipelining = pipelining; check = check })

-- versions, size, capabilities and check; the first fault decides
abbrev pub decided : ℕ → Option (List ℕ) → Option ℕ → Option (List ℕ) → Bool → Result Terms ℕ
decided own None size capabilities check = Err NO_VERSIONS
decided own (Some versions) None capabilities check = Err NO_SIZE
decided own (Some versions) (Some size) None check = Err NO_CAPABILITIES
decided own (Some versions) (Some size) (Some capabilities) check =
    if has_item is_version versions then sized own size (has_item is_pipelining capabilities) check
    else Err BAD_VERSION

abbrev pub agreed : ℕ → List Pair → Result Terms ℕ
agreed own ps =
    decided own (text_of (value_of (codes "supported-versions") ps)) (size_of (value_of (codes "max-frame-size") ps))
    (text_of (value_of (codes "capabilities") ps)) (is_true (value_of (codes "healthcheck") ps))

abbrev pub of_pairs : ℕ → Option (List Pair) → Result Terms ℕ
of_pairs own None = Err INVALID
of_pairs own (Some ps) = agreed own ps

-- the terms for the client's HELLO and the agent's own size, or the status of the refusal
unfoldable pub terms_of : ℕ → List ℕ → Result Terms ℕ
terms_of own payload = of_pairs own (all_of pair_at payload)

-- a status that refuses a HELLO
abbrev pub IsRefusal : ℕ → Type 0
IsRefusal status = (INVALID ≤ status) × (status ≤ BAD_SIZE)

-- the answer is that, or memory ran out
abbrev pub Settles : Result Terms refusals.Refuse → Result Terms ℕ → Type 0
Settles (Ok terms) wanted = wanted ≡ Ok terms
Settles (Err (refusal.Status status)) wanted = wanted ≡ Err status
Settles (Err refusal.NoMemory) wanted = Unit {0}
