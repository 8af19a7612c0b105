-- A frame that was written is at the head of its stream.
use Rattle.std.proofs.Common.{◌≡◌, ◌≢◌, inl, inr, ℕ, zero, suc, ◌+◌, ◌≤◌, false, not, ◌||◌, bit_and, List, ◌++◌, length, refl, ◌∙◌, ap, arith, append_assoc, length-append}
use Rattle.std.proofs.lemmas.Bool.{le-ltb, ne_eqb}
use Rattle.std.proofs.lemmas.List.{take_at, drop_at}
use Rattle.std.specs.Int.{to_be_bytes, w32}
use Rattle.std.specs.Prelude.{◌==◌}
use Rattle.spop_frame.specs.Frame.{SpellsFrame, IsFragment}
use Rattle.spop_frame.specs.Head.{Head, NotYet, Bad, Whole, IsWhole, head_of, behind_length, is_fragment}
use Rattle.spop_frame.specs.declared.frame.Frame.{Frame}
use Rattle.spop_frame.proofs.Spellings.{word_again, frame_read}

-- the test of a fragment is what it says
tests : (fin abort kind : ℕ) → (fin ≡ 0 → ⊥) → ((abort ≢ 0) → ⊥) → (kind ≡ 0 → ⊥) → ((fin == 0) || not (abort == 0) || (kind == 0)) ≡ false
tests zero abort kind f a k = absurd (f refl)
tests (suc fin) zero zero f a k = absurd (k refl)
tests (suc fin) zero (suc kind) f a k = rw (ne_eqb (suc fin) 0 f, ne_eqb (suc kind) 0 k) refl
tests (suc fin) (suc abort) kind f a k = absurd (a (λ e. omega (arith, e)))

no_fragment : (f : Frame) → (IsFragment f → ⊥) → is_fragment f ≡ false
no_fragment f fine = tests (bit_and f.flags 1) (bit_and f.flags 2) f.kind (λ e. fine (inl (λ set. set e))) (λ set. fine (inr (inl set))) (λ e. fine (inr (inr e)))

pub frame_again : (limit : ℕ) (bytes rest : List ℕ) (f : Frame) → SpellsFrame bytes f → length bytes ≤ limit + 4 → (IsFragment f → ⊥)
    → head_of limit (bytes ++ rest) ≡ Whole f rest
frame_again limit bytes rest f s small fine =
    let body = s.0 in
    let n = length body in
    let start : bytes ++ rest ≡ to_be_bytes w32 n ++ (body ++ rest) = ap (λ (l : List ℕ). l ++ rest) s.3 ∙ append_assoc (to_be_bytes w32 n) body rest in
    let long : length bytes ≡ n + 4 = ap length s.3 ∙ omega (arith, length-append (to_be_bytes w32 n) body) in
    let within : n ≤ limit = omega (arith, long, small) in
    let all : n ≤ length (body ++ rest) = omega (arith, length-append body rest) in
    ap (head_of limit) start
    ∙ ap (behind_length limit) (word_again n (body ++ rest) s.2)
    ∙ rw (le-ltb limit n within, le-ltb (length (body ++ rest)) n all, take_at body rest n refl, drop_at body rest n refl, frame_read body f s.1, no_fragment f fine) refl

-- what is whole is some frame, and the bytes after it
pub whole_is : (head : Head) → IsWhole head → (f : Frame) × (rest : List ℕ) × (head ≡ Whole f rest)
whole_is NotYet h = absurd h
whole_is (Bad status) h = absurd h
whole_is (Whole f rest) h = (f, rest, refl)
