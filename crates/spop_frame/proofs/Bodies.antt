-- What is read as a frame is spelled so.
use Rattle.std.proofs.Common.{◌≡◌, ℕ, zero, suc, ◌^◌, ◌<◌, List, [], ◌∷◌, ◌++◌, length, drop, get_or, Option, Some, None, refl, sym, ◌∙◌, ap, subst, arith}
use Rattle.std.proofs.lemmas.List.{drop_at}
use Rattle.std.proofs.lemmas.List.Elements.{All-drop}
use Rattle.std.proofs.lemmas.Nat.{be_bytes_4}
use Rattle.std.specs.Int.{to_be_bytes, from_be_bytes, w32}
use Rattle.std.specs.List.{All}
use Rattle.spop_varint.specs.Varint.{Spells}
use Rattle.spop_varint.specs.Reading.{◌>>=◌, split_number}
use Rattle.spop_varint.proofs.Splits.{split_spells}
use Rattle.spop_frame.specs.Frame.{SpellsBody}
use Rattle.spop_frame.specs.Reading.{split_word, frame_of}
use Rattle.spop_frame.specs.declared.frame.Frame.{Frame}

abbrev Bytes : List ℕ → Type 0
Bytes bytes = All (λ b. b < 256) bytes

-- what a reading found, and what was read after it
pub bind_some : {A B : Type 0} (o : Option A) (f : A → Option B) (y : B) → (o >>= f) ≡ Some y → (x : A) × (o ≡ Some x) × (f x ≡ Some y)
bind_some None f y e = absurd (cc e)
bind_some (Some x) f y e = (x, refl, e)

rest_bytes : (bytes front rest : List ℕ) → Bytes bytes → bytes ≡ front ++ rest → Bytes rest
rest_bytes bytes front rest all is = subst Bytes (ap (λ (l : List ℕ). drop (length front) l) is ∙ drop_at front rest (length front) refl) (All-drop (λ b. b < 256) (length front) bytes all)

-- a number at the front of bytes
number : (bytes : List ℕ) (x : ℕ × List ℕ) → Bytes bytes → split_number bytes ≡ Some x → (front : List ℕ) × Spells front x.0 × (bytes ≡ front ++ x.1) × Bytes x.1
number bytes x all e =
    let s = split_spells bytes x.1 x.0 all e in
    (s.0, s.1, s.2, rest_bytes bytes s.0 x.1 all s.2)

four : (a b c d : ℕ) → a < 256 → b < 256 → c < 256 → d < 256 → (i : ℕ) → get_or (a ∷ b ∷ c ∷ d ∷ []) i 0 < 256
four a b c d ha hb hc hd zero = ha
four a b c d ha hb hc hd (suc zero) = hb
four a b c d ha hb hc hd (suc (suc zero)) = hc
four a b c d ha hb hc hd (suc (suc (suc zero))) = hd
four a b c d ha hb hc hd (suc (suc (suc (suc i)))) = omega arith

word : (bytes : List ℕ) (x : ℕ × List ℕ) → Bytes bytes → split_word bytes ≡ Some x → (x.0 < 2 ^ 32) × (bytes ≡ to_be_bytes w32 x.0 ++ x.1) × Bytes x.1
word [] x all e = absurd (cc e)
word (a ∷ []) x all e = absurd (cc e)
word (a ∷ b ∷ []) x all e = absurd (cc e)
word (a ∷ b ∷ c ∷ []) x all e = absurd (cc e)
word (a ∷ b ∷ c ∷ d ∷ rest) x all e =
    let same : (from_be_bytes w32 (a ∷ b ∷ c ∷ d ∷ []), rest) ≡ x = cc e in
    let value : from_be_bytes w32 (a ∷ b ∷ c ∷ d ∷ []) ≡ x.0 = ap (λ (p : ℕ × List ℕ). p.0) same in
    let left : rest ≡ x.1 = ap (λ (p : ℕ × List ℕ). p.1) same in
    let ha : a < 256 = all 0 0 (omega arith) in
    let hb : b < 256 = all 1 0 (omega arith) in
    let hc : c < 256 = all 2 0 (omega arith) in
    let hd : d < 256 = all 3 0 (omega arith) in
    let spelled : to_be_bytes w32 x.0 ≡ a ∷ b ∷ c ∷ d ∷ [] = be_bytes_4 (a ∷ b ∷ c ∷ d ∷ []) x.0 refl (four a b c d ha hb hc hd) (sym value) in (
      omega (arith, value, ha, hb, hc, hd),
      ap (λ (l : List ℕ). a ∷ b ∷ c ∷ d ∷ l) left ∙ ap (λ (l : List ℕ). l ++ x.1) (sym spelled),
      subst Bytes left (All-drop (λ b. b < 256) 4 (a ∷ b ∷ c ∷ d ∷ rest) all),
    )

-- the parts of a frame, one after the other
built : (kind flags stream frame : ℕ) (s t payload : List ℕ) (f : Frame) → kind < 256 → flags < 2 ^ 32 → Spells s stream → Spells t frame
    → record { kind = kind; flags = flags; stream = stream; frame = frame; payload = payload } ≡ f
    → SpellsBody (kind ∷ to_be_bytes w32 flags ++ (s ++ (t ++ payload))) f
built kind flags stream frame s t payload f fits few one two is =
    subst (λ (g : Frame). SpellsBody (kind ∷ to_be_bytes w32 flags ++ (s ++ (t ++ payload))) g) is
    (record { kind = fits; flags = few; stream = s; frame = t; stream_is = one; frame_is = two; is = refl })

pub frame_spelled : (body : List ℕ) (f : Frame) → Bytes body → frame_of body ≡ Some f → SpellsBody body f
frame_spelled [] f all e = absurd (cc e)
frame_spelled (kind ∷ body) f all e =
    let flags = bind_some (split_word body) _ f e in
    let w = word body flags.0 (All-drop (λ b. b < 256) 1 (kind ∷ body) all) flags.1 in
    let stream = bind_some (split_number flags.0.1) _ f flags.2 in
    let s = number flags.0.1 stream.0 w.2 stream.1 in
    let frame = bind_some (split_number stream.0.1) _ f stream.2 in
    let t = number stream.0.1 frame.0 s.3 frame.1 in
    let whole : kind ∷ body ≡ kind ∷ to_be_bytes w32 flags.0.0 ++ (s.0 ++ (t.0 ++ frame.0.1)) =
    ap (λ (l : List ℕ). kind ∷ l) w.1 ∙ ap (λ (l : List ℕ). kind ∷ to_be_bytes w32 flags.0.0 ++ l) (s.2 ∙ ap (λ (l : List ℕ). s.0 ++ l) t.2) in
    subst (λ (l : List ℕ). SpellsBody l f) (sym whole)
    (built kind flags.0.0 stream.0.0 frame.0.0 s.0 t.0 frame.0.1 f (all 0 0 (omega arith)) w.0 s.1 t.1 (cc frame.2))
