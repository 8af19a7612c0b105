-- The frames that were written are read again, and the pairs in them.
use Rattle.std.proofs.Common.{◌≡◌, inl, inr, ℕ, ◌≤◌, ◌<◌, ◌^◌, List, [], ◌∷◌, ◌++◌, length, Some, refl, arith, rules, length-append}
use Rattle.std.specs.List.{flat_map}
use Rattle.std.specs.Int.{to_be_bytes, w32}
use Rattle.spop_data.specs.Data.{SpellsPair}
use Rattle.spop_data.specs.Lists.{SpellsEach, all_of}
use Rattle.spop_data.specs.Reading.{pair_at}
use Rattle.spop_data.specs.Writing.{pair_bytes, IsPair}
use Rattle.spop_data.specs.declared.value.Pair.{Pair}
use Rattle.spop_data.proofs.Items.{all_again}
use Rattle.spop_data.proofs.Laws.{pair}
use Rattle.spop_data.proofs.Written as written
use Rattle.spop_frame.specs.Frame.{SpellsFrame, IsFragment}
use Rattle.spop_frame.specs.Head.{head_of, Whole}
use Rattle.spop_frame.specs.Writing.{body_bytes}
use Rattle.spop_frame.proofs.Heads.{frame_again}
use Rattle.spop_hello.specs.Frames.{agent_hello, control, control_bytes, disconnect, disconnect_pairs, disconnect_payload, hello_pairs, hello_payload}
use Rattle.spop_hello.specs.declared.terms.Terms.{Terms}
use Rattle.spop_hello.proofs.Pairs.{some}
use Rattle.spop_hello.proofs.Sizes.{hello_short, disconnect_short, capability_short, message_short}

module _ (kind : ℕ) (payload : List ℕ) (byte : kind < 256) (short : length payload ≤ 200) where
  spelled : SpellsFrame (control_bytes kind payload) (control kind payload)
  unfolding control_bytes
  spelled = (
    body_bytes (control kind payload),
    record { kind = byte; flags = omega arith; stream = 0 ∷ []; frame = 0 ∷ []; stream_is = (omega arith, refl); frame_is = (omega arith, refl); is = refl },
    omega arith,
    refl,
  )

  size : length (control_bytes kind payload) ≤ 211
  unfolding control_bytes
  size = omega (arith, length-append (to_be_bytes w32 (length (body_bytes (control kind payload)))) (body_bytes (control kind payload)))

  module _ (some_kind : kind ≡ 0 → ⊥) where
    no_fragment : IsFragment (control kind payload) → ⊥
    no_fragment (inl f) = f (search rules)
    no_fragment (inr (inl f)) = f refl
    no_fragment (inr (inr f)) = some_kind f

    again : (limit : ℕ) (rest : List ℕ) → 256 ≤ limit → head_of limit (control_bytes kind payload ++ rest) ≡ Whole (control kind payload) rest
    again limit rest enough = frame_again limit (control_bytes kind payload) rest (control kind payload) spelled (omega (arith, size)) no_fragment

pub hello_again : (limit : ℕ) (t : Terms) (rest : List ℕ) → t.size < 2 ^ 32 → 256 ≤ limit → head_of limit (agent_hello t ++ rest) ≡ Whole (control 101 (hello_payload t)) rest
hello_again limit t rest small enough = again 101 (hello_payload t) (omega arith) (hello_short t (omega arith)) (λ e. absurd cc) limit rest enough

pub leave_again : (limit status : ℕ) (rest : List ℕ) → status < 2 ^ 32 → 256 ≤ limit → head_of limit (disconnect status ++ rest) ≡ Whole (control 102 (disconnect_payload status)) rest
leave_again limit status rest small enough = again 102 (disconnect_payload status) (omega arith) (disconnect_short status (omega arith)) (λ e. absurd cc) limit rest enough

abbrev ArePairs : List Pair → Type 0
ArePairs [] = Unit {0}
ArePairs (p ∷ ps) = IsPair p × ArePairs ps

each : (ps : List Pair) → ArePairs ps → SpellsEach SpellsPair (flat_map pair_bytes ps) ps
each [] h = refl
each (p ∷ ps) h = (pair_bytes p, flat_map pair_bytes ps, written.pair p h.0, each ps h.1, refl)

pub hello_read : (t : Terms) → t.size < 2 ^ 32 → all_of pair_at (hello_payload t) ≡ Some (hello_pairs t)
unfolding hello_payload
hello_read t small =
    let held : ArePairs (hello_pairs t) = (
      record { name = omega arith; value = omega arith },
      (record { name = omega arith; value = small }, (record { name = omega arith; value = omega (arith, capability_short t.pipelining) }, tt)),
    ) in
    all_again pair_at SpellsPair pair some (flat_map pair_bytes (hello_pairs t)) (hello_pairs t) (each (hello_pairs t) held)

pub leave_read : (status : ℕ) → status < 2 ^ 32 → all_of pair_at (disconnect_payload status) ≡ Some (disconnect_pairs status)
unfolding disconnect_payload
leave_read status small =
    let held : ArePairs (disconnect_pairs status) = (
      record { name = omega arith; value = small },
      (record { name = omega arith; value = omega (arith, message_short status) }, tt),
    ) in
    all_again pair_at SpellsPair pair some (flat_map pair_bytes (disconnect_pairs status)) (disconnect_pairs status) (each (disconnect_pairs status) held)
