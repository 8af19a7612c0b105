-- The head of a stream: more bytes change nothing of what was decided, and what is left behind a frame is shorter.
use Rattle.std.proofs.Common.{rules, ◌≡◌, inl, inr, ℕ, zero, suc, ◌+◌, ◌<◌, ◌≤◌, Bool, true, false, List, [], ◌∷◌, ◌++◌, length, take, drop, Option, Some, None, refl, sym, ◌∙◌, ap, subst, arith, length-append, length-drop, length-take}
use Rattle.std.proofs.lemmas.Bool.{lt-ltb, le-ltb, cases_lt}
use Rattle.std.proofs.lemmas.List.{take-append-le, drop-append-le}
use Rattle.std.specs.Prelude.{if◌then◌else◌}
use Rattle.std.specs.Int.{from_be_bytes, w32}
use Rattle.spop_varint.specs.Reading.{split_number, split_by, number_at}
use Rattle.spop_varint.specs.declared.read.Varint as answers
use Rattle.spop_varint.specs.declared.read.Varint.TheVariants.{Read, Short, TooLarge}
use Rattle.spop_data.proofs.Steps.{bind_some, some_is}
use Rattle.spop_data.specs.Lists.{up_to}
use Rattle.spop_frame.specs.Head.{Head, NotYet, Bad, Whole, head_of, behind_length, whole, is_fragment}
use Rattle.spop_frame.specs.Reading.{frame_of, split_word}
use Rattle.spop_frame.specs.declared.frame.Frame.{Frame}
use Rattle.spop_hello.specs.Frames.{IsStatus}
use Rattle.spop_talk.specs.Reading.{messages_of, message_at}
use Rattle.spop_talk.specs.declared.message.Message.{Message}

-- the same head, with more behind it
abbrev pub later : Head → List ℕ → Head
later NotYet more = NotYet
later (Bad status) more = Bad status
later (Whole f rest) more = Whole f (rest ++ more)

if_later : (b : Bool) (f : Frame) (rest more : List ℕ) → (if b then Bad 10 else Whole f (rest ++ more)) ≡ later (if b then Bad 10 else Whole f rest) more
if_later true f rest more = refl
if_later false f rest more = refl

whole_later : (o : Option Frame) (rest more : List ℕ) → whole o (rest ++ more) ≡ later (whole o rest) more
whole_later None rest more = refl
whole_later (Some f) rest more = if_later (is_fragment f) f rest more

-- a decision is no NotYet
abbrev pub IsDecided : Head → Type 0
IsDecided NotYet = ⊥
IsDecided (Bad status) = Unit {0}
IsDecided (Whole f rest) = Unit {0}

behind_later : (limit n : ℕ) (xs more : List ℕ) → IsDecided (behind_length limit (Some (n, xs))) → behind_length limit (Some (n, xs ++ more)) ≡ later (behind_length limit (Some (n, xs))) more
behind_later limit n xs more = elim (cases_lt limit n) [
  | inl big ↦ rw (lt-ltb limit n big) (λ decided. refl)
  | inr fits ↦ rw (le-ltb limit n fits) (elim (cases_lt (length xs) n) [
    | inl few ↦ rw (lt-ltb (length xs) n few) (λ decided. absurd decided)
    | inr all ↦
        let more_are : n ≤ length (xs ++ more) = omega (arith, all, length-append xs more) in
        rw (le-ltb (length xs) n all, le-ltb (length (xs ++ more)) n more_are, take-append-le n xs more all, drop-append-le n xs more all) (λ decided. whole_later (frame_of (take n xs)) (drop n xs) more)
  ])
]

head_later : (limit : ℕ) (bytes more : List ℕ) → IsDecided (head_of limit bytes) → head_of limit (bytes ++ more) ≡ later (head_of limit bytes) more
head_later limit [] more decided = absurd decided
head_later limit (a ∷ []) more decided = absurd decided
head_later limit (a ∷ b ∷ []) more decided = absurd decided
head_later limit (a ∷ b ∷ c ∷ []) more decided = absurd decided
head_later limit (a ∷ b ∷ c ∷ d ∷ xs) more decided = behind_later limit (from_be_bytes w32 (a ∷ b ∷ c ∷ d ∷ [])) xs more decided

pub whole_more : (limit : ℕ) (unread more : List ℕ) (f : Frame) (r : List ℕ) → head_of limit unread ≡ Whole f r → head_of limit (unread ++ more) ≡ Whole f (r ++ more)
whole_more limit unread more f r e = head_later limit unread more (subst IsDecided (sym e) tt) ∙ ap (λ (h : Head). later h more) e

pub bad_more : (limit : ℕ) (unread more : List ℕ) (s : ℕ) → head_of limit unread ≡ Bad s → head_of limit (unread ++ more) ≡ Bad s
bad_more limit unread more s e = head_later limit unread more (subst IsDecided (sym e) tt) ∙ ap (λ (h : Head). later h more) e

-- the payload of a frame is no longer than its body
word_rest : (bytes : List ℕ) (n : ℕ) (rest : List ℕ) → split_word bytes ≡ Some (n, rest) → length rest ≤ length bytes
word_rest [] n rest e = absurd cc
word_rest (a ∷ []) n rest e = absurd cc
word_rest (a ∷ b ∷ []) n rest e = absurd cc
word_rest (a ∷ b ∷ c ∷ []) n rest e = absurd cc
word_rest (a ∷ b ∷ c ∷ d ∷ xs) n rest e =
    let same : xs ≡ rest = ap (λ x. x.1) (some_is (from_be_bytes w32 (a ∷ b ∷ c ∷ d ∷ []), xs) (n, rest) e) in
    omega (arith, ap length same)

number_rest : (answer : answers.Varint) (bytes : List ℕ) (n : ℕ) (rest : List ℕ) → split_by answer bytes ≡ Some (n, rest) → length rest ≤ length bytes
number_rest (Read v used) bytes n rest e =
    let same : drop used bytes ≡ rest = ap (λ x. x.1) (some_is (v, drop used bytes) (n, rest) e) in
    omega (arith, ap length same, length-drop used bytes)
number_rest Short bytes n rest e = absurd cc
number_rest TooLarge bytes n rest e = absurd cc

frame_rest : (bytes : List ℕ) (f : Frame) → frame_of bytes ≡ Some f → length f.payload ≤ length bytes
frame_rest [] f e = absurd cc
frame_rest (kind ∷ body) f e =
    let a = bind_some (split_word body) _ _ e in
    let b = bind_some (split_number a.0.1) _ _ a.2 in
    let d = bind_some (split_number b.0.1) _ _ b.2 in
    let same = ap (λ (x : Frame). x.payload) (some_is _ f d.2) in
    omega (arith, ap length same, word_rest body a.0.0 a.0.1 a.1, number_rest (number_at a.0.1) a.0.1 b.0.0 b.0.1 b.1, number_rest (number_at b.0.1) b.0.1 d.0.0 d.0.1 d.1)

-- what is left behind a frame is shorter, by its payload too, and a refusal has a status of its own
abbrev pub IsLess : Head → ℕ → Type 0
IsLess NotYet size = Unit {0}
IsLess (Bad status) size = IsStatus status
IsLess (Whole f rest) size = length f.payload + length rest < size

if_less : (b : Bool) (f : Frame) (rest : List ℕ) (size : ℕ) → length f.payload + length rest < size → IsLess (if b then Bad 10 else Whole f rest) size
if_less true f rest size less = search rules
if_less false f rest size less = less

whole_less : (o : Option Frame) (body rest : List ℕ) (size : ℕ) → frame_of body ≡ o → length body + length rest < size → IsLess (whole o rest) size
whole_less None body rest size e less = search rules
whole_less (Some f) body rest size e less = if_less (is_fragment f) f rest size (omega (arith, less, frame_rest body f e))

behind_less : (limit n : ℕ) (xs : List ℕ) (size : ℕ) → length xs < size → IsLess (behind_length limit (Some (n, xs))) size
behind_less limit n xs size less = elim (cases_lt limit n) [
  | inl big ↦ rw (lt-ltb limit n big) (search rules)
  | inr fits ↦ rw (le-ltb limit n fits) (elim (cases_lt (length xs) n) [
    | inl few ↦ rw (lt-ltb (length xs) n few) tt
    | inr all ↦ rw (le-ltb (length xs) n all) (whole_less (frame_of (take n xs)) (take n xs) (drop n xs) size refl (omega (arith, less, all, length-drop n xs, length-take n xs)))
  ])
]

head_less : (limit : ℕ) (bytes : List ℕ) → IsLess (head_of limit bytes) (length bytes)
head_less limit [] = tt
head_less limit (a ∷ []) = tt
head_less limit (a ∷ b ∷ []) = tt
head_less limit (a ∷ b ∷ c ∷ []) = tt
head_less limit (a ∷ b ∷ c ∷ d ∷ xs) = behind_less limit (from_be_bytes w32 (a ∷ b ∷ c ∷ d ∷ [])) xs (length (a ∷ b ∷ c ∷ d ∷ xs)) (omega arith)

pub bad_status : (limit : ℕ) (bytes : List ℕ) (status : ℕ) → head_of limit bytes ≡ Bad status → IsStatus status
bad_status limit bytes status e = subst (λ (h : Head). IsLess h (length bytes)) e (head_less limit bytes)

pub shorter : (limit : ℕ) (unread : List ℕ) (f : Frame) (r : List ℕ) → head_of limit unread ≡ Whole f r → length f.payload + length r < length unread
shorter limit unread f r e = subst (λ (h : Head). IsLess h (length unread)) e (head_less limit unread)

-- a payload has no more messages than bytes
few_items : {A : Type 0} (one : List ℕ → Option (A × List ℕ)) (most : ℕ) (bytes : List ℕ) (xs : List A) → up_to one most bytes ≡ Some xs → length xs ≤ most
few_items one most [] xs e = (let same = some_is [] xs e in omega (arith, ap length same))
few_items one zero (b ∷ bytes) xs e = absurd cc
few_items one (suc most) (b ∷ bytes) xs e =
    let a = bind_some (one (b ∷ bytes)) _ _ e in
    let d = bind_some (up_to one most a.0.1) _ _ a.2 in
    let same = some_is (a.0.0 ∷ d.0) xs d.2 in
    omega (arith, ap length same, few_items one most a.0.1 d.0 d.1)

pub few_messages : (payload : List ℕ) (ms : List Message) → messages_of payload ≡ Some ms → length ms ≤ length payload
unfolding messages_of
few_messages payload ms e = few_items message_at (length payload) payload ms e
