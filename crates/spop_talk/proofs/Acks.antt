-- The bytes of an ACK spell its frame.
use Rattle.std.proofs.Common.{◌≡◌, inl, inr, ℕ, ◌+◌, ◌<◌, ◌≤◌, ◌^◌, List, [], ◌∷◌, ◌++◌, length, take, drop, refl, sym, ◌∙◌, ap, arith, rules, append_assoc, length-append}
use Rattle.std.proofs.lemmas.List.{drop_at, take_at}
use Rattle.spop_varint.specs.Writing.{spelling}
use Rattle.spop_varint.proofs.Spelling.{spelled}
use Rattle.spop_frame.specs.Frame.{SpellsBody, SpellsFrame, IsFragment, framed}
use Rattle.spop_frame.specs.Head.{head_of, Whole}
use Rattle.std.specs.Int.{to_be_bytes, w32}
use Rattle.spop_frame.proofs.Heads.{frame_again}
use Rattle.spop_talk.specs.Ack.{ack, ack_body, ack_frame}
use Rattle.spop_talk.specs.declared.ack.Action.{Action}

-- four bytes of 0 before a body, once its length stands there
pub patched : (old body : List ℕ) (at_ word : ℕ) → at_ ≡ length old → word ≡ length body
    → take at_ (old ++ (0 ∷ 0 ∷ 0 ∷ 0 ∷ body)) ++ (to_be_bytes w32 word ++ drop (at_ + 4) (old ++ (0 ∷ 0 ∷ 0 ∷ 0 ∷ body))) ≡ old ++ framed body
patched old body at_ word place is =
    let zeros : List ℕ = 0 ∷ 0 ∷ 0 ∷ 0 ∷ [] in
    let front : length (old ++ zeros) ≡ at_ + 4 = omega (arith, length-append old zeros, place) in
    let kept : take at_ (old ++ (0 ∷ 0 ∷ 0 ∷ 0 ∷ body)) ≡ old = take_at old _ at_ (sym place) in
    let rest : drop (at_ + 4) (old ++ (0 ∷ 0 ∷ 0 ∷ 0 ∷ body)) ≡ body =
    ap (λ (l : List ℕ). drop (at_ + 4) l) (sym (append_assoc old zeros body)) ∙ drop_at (old ++ zeros) body (at_ + 4) front in
    λ i. kept i ++ (to_be_bytes w32 (is i) ++ rest i)

module _ (stream frame : ℕ) (actions : List Action) (stream_fits : stream < 2 ^ 64) (frame_fits : frame < 2 ^ 64) where
  pub body_spelled : SpellsBody (ack_body stream frame actions) (ack_frame stream frame actions)
  unfolding ack_body
  body_spelled = record {
    kind = omega arith;
    flags = omega arith;
    stream = spelling stream;
    frame = spelling frame;
    stream_is = spelled stream stream_fits;
    frame_is = spelled frame frame_fits;
    is = refl;
  }

  pub ack_spelled : length (ack_body stream frame actions) < 2 ^ 32 → SpellsFrame (ack stream frame actions) (ack_frame stream frame actions)
  ack_spelled small = (ack_body stream frame actions, body_spelled, small, refl)

  pub no_fragment : IsFragment (ack_frame stream frame actions) → ⊥
  no_fragment (inl f) = f (search rules)
  no_fragment (inr (inl f)) = f refl
  no_fragment (inr (inr f)) = absurd cc

pub ack_again : (limit stream frame : ℕ) (actions : List Action) (rest : List ℕ) → stream < 2 ^ 64 → frame < 2 ^ 64 → limit < 2 ^ 32
    → length (ack_body stream frame actions) ≤ limit → head_of limit (ack stream frame actions ++ rest) ≡ Whole (ack_frame stream frame actions) rest
ack_again limit stream frame actions rest stream_fits frame_fits limit_fits within =
    let body = ack_body stream frame actions in
    let four : length (framed body) ≡ 4 + length body = length-append (to_be_bytes w32 (length body)) body in
    frame_again limit (ack stream frame actions) rest (ack_frame stream frame actions) (ack_spelled stream frame actions stream_fits frame_fits (omega arith)) (omega (arith, four))
    (no_fragment stream frame actions stream_fits frame_fits)
