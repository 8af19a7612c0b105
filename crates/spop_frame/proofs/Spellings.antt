-- A frame has one spelling, and is read from it.
use Rattle.std.proofs.Common.{◌≡◌, ℕ, ◌+◌, ◌^◌, ◌<◌, ◌≤◌, List, ◌∷◌, ◌++◌, length, Some, refl, sym, ◌∙◌, ap, arith, length-append}
use Rattle.std.proofs.lemmas.Nat.{from_be_bytes-to_be_bytes_4}
use Rattle.std.specs.Int.{to_be_bytes, w32}
use Rattle.spop_varint.proofs.Laws.{unique, short_enough}
use Rattle.spop_varint.proofs.Spelling.{spelling_is}
use Rattle.spop_varint.proofs.Splits.{split_again}
use Rattle.spop_frame.specs.Frame.{SpellsBody, SpellsFrame, framed}
use Rattle.spop_frame.specs.Writing.{body_bytes, frame_bytes}
use Rattle.spop_frame.specs.Reading.{split_word, frame_of}
use Rattle.spop_frame.specs.declared.frame.Frame.{Frame}

-- a frame has one spelling
pub same_body : (f : Frame) (a b : List ℕ) → SpellsBody a f → SpellsBody b f → a ≡ b
same_body f a b s t =
    let stream = unique s.stream t.stream f.stream s.stream_is t.stream_is in
    let frame = unique s.frame t.frame f.frame s.frame_is t.frame_is in
    s.is ∙ (λ i. f.kind ∷ to_be_bytes w32 f.flags ++ (stream i ++ (frame i ++ f.payload))) ∙ sym t.is

pub body_is : (f : Frame) (body : List ℕ) → SpellsBody body f → body ≡ body_bytes f
body_is f body s =
    let stream = spelling_is s.stream f.stream s.stream_is in
    let frame = spelling_is s.frame f.frame s.frame_is in
    s.is ∙ (λ i. f.kind ∷ to_be_bytes w32 f.flags ++ (stream i ++ (frame i ++ f.payload)))

pub frame_is : (bytes : List ℕ) (f : Frame) → SpellsFrame bytes f → bytes ≡ frame_bytes f
frame_is bytes f s = s.3 ∙ ap framed (body_is f s.0 s.1)

-- four bytes of a number are that number
pub word_again : (n : ℕ) (rest : List ℕ) → n < 2 ^ 32 → split_word (to_be_bytes w32 n ++ rest) ≡ Some (n, rest)
word_again n rest fits = ap (λ (x : ℕ). Some (x, rest)) (from_be_bytes-to_be_bytes_4 n fits)

-- what is spelled is read
pub frame_read : (body : List ℕ) (f : Frame) → SpellsBody body f → frame_of body ≡ Some f
frame_read body f s =
    let flags = from_be_bytes-to_be_bytes_4 f.flags s.flags in
    let stream = split_again s.stream (s.frame ++ f.payload) f.stream s.stream_is in
    let frame = split_again s.frame f.payload f.frame s.frame_is in
    ap frame_of s.is ∙ rw (flags, stream, frame) refl

-- all but the payload takes 25 bytes at most
pub few_bytes : (body : List ℕ) (f : Frame) → SpellsBody body f → length body ≤ 25 + length f.payload
few_bytes body f s = omega (arith, ap length s.is, length-append s.stream (s.frame ++ f.payload), length-append s.frame f.payload, short_enough s.stream _ s.stream_is, short_enough s.frame _ s.frame_is)
