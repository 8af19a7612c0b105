-- What is found byte by byte is what the definition says.
use Rattle.std.proofs.Common.{◌-◌, ◌≡◌, inl, inr, ℕ, zero, suc, ◌+◌, ◌*◌, ◌^◌, ◌<◌, ◌≤◌, List, [], ◌∷◌, ◌++◌, length, take, drop, get_or, refl, sym, ◌∙◌, ap, subst, arith, take-append-drop, length-take, length-append, append_assoc, add-one, drop-cons}
use Rattle.std.proofs.lemmas.Nat.{mul-le}
use Rattle.std.proofs.Math.Nat.{pow-le-pow_right}
use Rattle.std.proofs.lemmas.Bool.{lt-ltb, le-ltb, cases_lt}
use Rattle.std.proofs.lemmas.List.{append-nil, take_at}
use Rattle.spop_varint.specs.declared.read.Varint as answers
use Rattle.spop_varint.specs.declared.read.Varint.TheVariants.{Read, Short, TooLarge}
use Rattle.spop_varint.specs.Varint.{weighed, IsTail, Spells, IsShort, IsTooLarge, IsRead}
use Rattle.spop_varint.specs.Reading.{tail_at, number_at}
use Rattle.spop_varint.proofs.Tails.{tail_more, first_and_tail, power_more}

abbrev pub IsBytes : List ℕ → Type 0
IsBytes bs = (i : ℕ) → get_or bs i 0 < 256

-- the bytes complete a sum, the first of them times 2 ^ e
abbrev pub Tail : ℕ → ℕ → List ℕ → ℕ → Type 0
Tail e sum bs v = IsTail bs × (v ≡ sum + weighed e bs) × (v < 2 ^ 64)

tail_longer : (e sum b : ℕ) (bs : List ℕ) (v : ℕ) → 128 ≤ b → b < 256 → Tail (e + 7) (sum + b * 2 ^ e) bs v → Tail e sum (b ∷ bs) v
tail_longer e sum b bs v low high t = (tail_more b bs low high t.0, omega (arith, t.1), t.2)

tail_shorter : (e sum b : ℕ) (bs : List ℕ) (v : ℕ) → 128 ≤ b → Tail e sum (b ∷ bs) v → Tail (e + 7) (sum + b * 2 ^ e) bs v
tail_shorter e sum b [] v low t = absurd (omega (arith, t.0))
tail_shorter e sum b (c ∷ bs) v low t = (t.0.2, omega (arith, t.1), t.2)

-- the three ways that a byte goes
ends : (used e sum b : ℕ) (bs : List ℕ) → sum + b * 2 ^ e < 2 ^ 64 → b < 128 → tail_at used e sum (b ∷ bs) ≡ Read (sum + b * 2 ^ e) (used + 1)
ends used e sum b bs fits last = rw (lt-ltb (sum + b * 2 ^ e) (2 ^ 64) fits, lt-ltb b 128 last) refl

pub goes_on : (used e sum b : ℕ) (bs : List ℕ) → sum + b * 2 ^ e < 2 ^ 64 → 128 ≤ b → tail_at used e sum (b ∷ bs) ≡ tail_at (used + 1) (e + 7) (sum + b * 2 ^ e) bs
goes_on used e sum b bs fits more = rw (lt-ltb (sum + b * 2 ^ e) (2 ^ 64) fits, le-ltb b 128 more) refl

overflows : (used e sum b : ℕ) (bs : List ℕ) → 2 ^ 64 ≤ sum + b * 2 ^ e → tail_at used e sum (b ∷ bs) ≡ TooLarge
overflows used e sum b bs large = rw (le-ltb (sum + b * 2 ^ e) (2 ^ 64) large) refl

-- a tail is read, whatever follows it
tail_again : (used e sum : ℕ) (xs rest : List ℕ) (v : ℕ) → Tail e sum xs v → tail_at used e sum (xs ++ rest) ≡ Read v (used + length xs)
tail_again used e sum [] rest v t = absurd t.0
tail_again used e sum (b ∷ []) rest v t =
    let is : sum + b * 2 ^ e ≡ v = omega (arith, t.1) in
    ends used e sum b rest (omega (arith, is, t.2)) t.0 ∙ ap (λ (w : ℕ). Read w (used + 1)) is
tail_again used e sum (b ∷ c ∷ xs) rest v t =
    let left = tail_shorter e sum b (c ∷ xs) v t.0.0 t in
    goes_on used e sum b (c ∷ xs ++ rest) (omega (arith, t.1, t.2)) t.0.0
    ∙ tail_again (used + 1) (e + 7) (sum + b * 2 ^ e) (c ∷ xs) rest v left
    ∙ (let n : used + 1 + length (c ∷ xs) ≡ used + length (b ∷ c ∷ xs) = omega arith in ap (λ (m : ℕ). Read v m) n)

-- a spelling is read, whatever follows it
pub again : (xs rest : List ℕ) (v : ℕ) → Spells xs v → number_at (xs ++ rest) ≡ Read v (length xs)
again [] rest v s = absurd s
again (a ∷ []) rest v s = rw (lt-ltb a 240 s.0) (ap (λ (w : ℕ). Read w 1) (sym s.1))
again (a ∷ b ∷ bs) rest v s =
    rw (le-ltb a 240 s.0) (tail_again 1 4 a (b ∷ bs) rest v (s.2, s.3, s.4) ∙ (let n : 1 + length (b ∷ bs) ≡ length (a ∷ b ∷ bs) = omega arith in ap (λ (m : ℕ). Read v m) n))

-- what an answer says of a tail
abbrev Found : ℕ → ℕ → ℕ → List ℕ → answers.Varint → Type 0
Found used e sum bs (Read v n) = (k : ℕ) × (n ≡ used + k) × (k ≤ length bs) × Tail e sum (take k bs) v
Found used e sum bs Short = (v : ℕ) × Tail e sum (bs ++ 0 ∷ []) v
Found used e sum bs TooLarge = ((n v : ℕ) → Tail e sum (take n bs) v → ⊥) × ((more : List ℕ) (v : ℕ) → Tail e sum (bs ++ more) v → ⊥)

found_more : (used e sum b : ℕ) (bs : List ℕ) (answer : answers.Varint) → 128 ≤ b → b < 256 → Found (used + 1) (e + 7) (sum + b * 2 ^ e) bs answer → Found used e sum (b ∷ bs) answer
found_more used e sum b bs (Read v n) low high f = (suc f.0, omega (arith, f.1), omega (arith, f.2), tail_longer e sum b (take f.0 bs) v low high f.3)
found_more used e sum b bs Short low high f = (f.0, tail_longer e sum b (bs ++ 0 ∷ []) f.0 low high f.1)
found_more used e sum b bs TooLarge low high f =
    (front, λ more v t. f.1 more v (tail_shorter e sum b (bs ++ more) v low t))
  where
    front : (n v : ℕ) → Tail e sum (take n (b ∷ bs)) v → ⊥
    front zero v t = t.0
    front (suc n) v t = f.0 n v (tail_shorter e sum b (take n bs) v low t)

found_large : (used e sum b : ℕ) (bs : List ℕ) → 2 ^ 64 ≤ sum + b * 2 ^ e → Found used e sum (b ∷ bs) TooLarge
found_large used e sum b bs large = (front, λ more v t. omega (arith, t.1, t.2))
  where
    front : (n v : ℕ) → Tail e sum (take n (b ∷ bs)) v → ⊥
    front zero v t = t.0
    front (suc n) v t = omega (arith, t.1, t.2)

tail_found : (used e sum : ℕ) (bs : List ℕ) → sum < 2 ^ 64 → IsBytes bs → Found used e sum bs (tail_at used e sum bs)
tail_found used e sum [] fits bytes = (sum, (omega arith, omega arith, fits))
tail_found used e sum (b ∷ bs) fits bytes = elim (cases_lt (sum + b * 2 ^ e) (2 ^ 64)) [
  | inl small ↦ elim (cases_lt b 128) [
    | inl last ↦ subst (λ (x : answers.Varint). Found used e sum (b ∷ bs) x) (sym (ends used e sum b bs small last)) (1, omega arith, omega arith, (last, omega arith, small))
    | inr more ↦ subst (λ (x : answers.Varint). Found used e sum (b ∷ bs) x) (sym (goes_on used e sum b bs small more))
        (found_more used e sum b bs _ more (bytes 0) (tail_found (used + 1) (e + 7) (sum + b * 2 ^ e) bs small (λ i. bytes (suc i))))
  ]
  | inr large ↦ subst (λ (x : answers.Varint). Found used e sum (b ∷ bs) x) (sym (overflows used e sum b bs large)) (found_large used e sum b bs large)
]

spells_tail : (a : ℕ) (bs : List ℕ) (v : ℕ) → 240 ≤ a → Spells (a ∷ bs) v → Tail 4 a bs v
spells_tail a [] v low s = absurd (omega (arith, s.0))
spells_tail a (b ∷ bs) v low s = (s.2, s.3, s.4)

-- what an answer says of the bytes
abbrev pub Answers : List ℕ → answers.Varint → Type 0
Answers bytes (Read v n) = (n ≤ length bytes) × Spells (take n bytes) v
Answers bytes Short = IsShort bytes
Answers bytes TooLarge = IsTooLarge bytes

number_from_tail : (a : ℕ) (bs : List ℕ) (answer : answers.Varint) → 240 ≤ a → a < 256 → Found 1 4 a bs answer → Answers (a ∷ bs) answer
number_from_tail a bs (Read v n) low high f =
    let n_is : n ≡ suc f.0 = omega (arith, f.1) in
    (omega (arith, n_is, f.2), subst (λ (m : ℕ). Spells (take m (a ∷ bs)) v) (sym n_is) (first_and_tail a (take f.0 bs) v low high f.3.0 f.3.1 f.3.2))
number_from_tail a bs Short low high f = (0 ∷ [], f.0, omega arith, first_and_tail a (bs ++ 0 ∷ []) f.0 low high f.1.0 f.1.1 f.1.2)
number_from_tail a bs TooLarge low high f = record { prefix = front; onward = λ more v s. f.1 more v (spells_tail a (bs ++ more) v low s) }
  where
    front : (n v : ℕ) → Spells (take n (a ∷ bs)) v → ⊥
    front zero v s = s
    front (suc n) v s = f.0 n v (spells_tail a (take n bs) v low s)

pub number_answers : (bytes : List ℕ) → IsBytes bytes → Answers bytes (number_at bytes)
number_answers [] bytes = (0 ∷ [], 0, omega arith, (omega arith, refl))
number_answers (a ∷ bs) bytes = elim (cases_lt a 240) [
  | inl alone ↦ rw (lt-ltb a 240 alone) (omega arith, (alone, refl))
  | inr first ↦ rw (le-ltb a 240 first) (number_from_tail a bs _ first (bytes 0) (tail_found 1 4 a bs (omega (arith, bytes 0)) (λ i. bytes (suc i))))
]

pub is_read : (bytes : List ℕ) (answer : answers.Varint) → Answers bytes answer → IsRead bytes answer
is_read bytes (Read v n) f = f
is_read bytes Short f = tt
is_read bytes TooLarge f = tt

-- no spelling begins another
no_longer : (bytes more : List ℕ) (n v w : ℕ) → n ≤ length bytes → Spells (take n bytes) v → Spells (bytes ++ more) w → length more ≡ 0
no_longer bytes more n v w le front whole =
    let one : number_at (bytes ++ more) ≡ Read w (length (bytes ++ more)) = ap number_at (sym (append-nil (bytes ++ more))) ∙ again (bytes ++ more) [] w whole in
    let split : take n bytes ++ (drop n bytes ++ more) ≡ bytes ++ more = sym (append_assoc (take n bytes) (drop n bytes) more) ∙ ap (λ (l : List ℕ). l ++ more) (take-append-drop n bytes) in
    let two : number_at (bytes ++ more) ≡ Read v (length (take n bytes)) = ap number_at (sym split) ∙ again (take n bytes) (drop n bytes ++ more) v front in
    let same : length (bytes ++ more) ≡ length (take n bytes) = cc (one, two) in
    omega (arith, same, length-append bytes more, length-take n bytes)

short_is : (bytes : List ℕ) (answer : answers.Varint) → Answers bytes answer → IsShort bytes → answer ≡ Short
short_is bytes (Read v n) f s = absurd (omega (arith, no_longer bytes s.0 n v s.1 f.0 f.1 s.3, s.2))
short_is bytes Short f s = refl
short_is bytes TooLarge f s = absurd (f.onward s.0 s.1 s.3)

pub only_short : (bytes : List ℕ) → IsBytes bytes → IsShort bytes → number_at bytes ≡ Short
only_short bytes all s = short_is bytes _ (number_answers bytes all) s

large_is : (bytes : List ℕ) (answer : answers.Varint) → Answers bytes answer → IsTooLarge bytes → answer ≡ TooLarge
large_is bytes (Read v n) f large = absurd (large.prefix n v f.1)
large_is bytes Short f large = absurd (large.onward f.0 f.1 f.3)
large_is bytes TooLarge f large = refl

pub only_large : (bytes : List ℕ) → IsBytes bytes → IsTooLarge bytes → number_at bytes ≡ TooLarge
only_large bytes all large = large_is bytes _ (number_answers bytes all) large

-- a turn of the loop
pub turn : (index sum b : ℕ) (bytes : List ℕ) → index < length bytes → b ≡ get_or bytes index 0 → sum + b * 2 ^ (7 * index + 4) < 2 ^ 64 → 128 ≤ b
    → tail_at (index + 1 + 1) (7 * (index + 1) + 4) (sum + b * 2 ^ (7 * index + 4)) (drop (index + 1) bytes) ≡ tail_at (index + 1) (7 * index + 4) sum (drop index bytes)
turn index sum b bytes within is fits more =
    let e = 7 * index + 4 in
    let next : 7 * (index + 1) + 4 ≡ e + 7 = omega arith in
    let cells : drop index bytes ≡ b ∷ drop (index + 1) bytes = drop-cons bytes index 0 within ∙ rw (sym is, add-one) refl in
    ap (λ (k : ℕ). tail_at (index + 1 + 1) k (sum + b * 2 ^ e) (drop (index + 1) bytes)) next
    ∙ sym (goes_on (index + 1) e sum b (drop (index + 1) bytes) fits more)
    ∙ ap (λ (l : List ℕ). tail_at (index + 1) e sum l) (sym cells)

-- what a tail stands for, the first byte once
abbrev value_of : List ℕ → ℕ
value_of [] = 0
value_of (b ∷ bs) = b + 128 * value_of bs

weighed_by : (e : ℕ) (bs : List ℕ) → weighed e bs ≡ 2 ^ e * value_of bs
weighed_by e [] = omega arith
weighed_by e (b ∷ bs) = let v = value_of bs in let p = 2 ^ e in
    let more : weighed (e + 7) bs ≡ 128 * p * v = weighed_by (e + 7) bs ∙ ap (λ (q : ℕ). q * v) (power_more e) in
    omega (arith, more)

same_tail : (xs ys : List ℕ) → IsTail xs → IsTail ys → value_of xs ≡ value_of ys → xs ≡ ys
same_tail [] ys s t e = absurd s
same_tail (x ∷ xs) [] s t e = absurd t
same_tail (x ∷ []) (y ∷ []) s t e = ap (λ (b : ℕ). b ∷ []) (omega (arith, e))
same_tail (x ∷ []) (y ∷ c ∷ ys) s t e = absurd (omega (arith, s, t.0, e))
same_tail (x ∷ c ∷ xs) (y ∷ []) s t e = absurd (omega (arith, t, s.0, e))
same_tail (x ∷ c ∷ xs) (y ∷ d ∷ ys) s t e =
    let head : x ≡ y = omega (arith, s.0, s.1, t.0, t.1, e) in
    let rest : value_of (c ∷ xs) ≡ value_of (d ∷ ys) = omega (arith, s.0, s.1, t.0, t.1, e) in
    (λ i. head i ∷ same_tail (c ∷ xs) (d ∷ ys) s.2 t.2 rest i)

pub unique : (a b : List ℕ) (n : ℕ) → Spells a n → Spells b n → a ≡ b
unique [] b n s t = absurd s
unique (a ∷ cs) [] n s t = absurd t
unique (a ∷ []) (b ∷ []) n s t = ap (λ (x : ℕ). x ∷ []) (sym s.1 ∙ t.1)
unique (a ∷ []) (b ∷ c ∷ bs) n s t = absurd (omega (arith, s.0, s.1, t.0, t.3))
unique (a ∷ c ∷ cs) (b ∷ []) n s t = absurd (omega (arith, t.0, t.1, s.0, s.3))
unique (a ∷ c ∷ cs) (b ∷ d ∷ bs) n s t =
    let one : n ≡ a + 16 * value_of (c ∷ cs) = s.3 ∙ ap (λ (w : ℕ). a + w) (weighed_by 4 (c ∷ cs)) in
    let two : n ≡ b + 16 * value_of (d ∷ bs) = t.3 ∙ ap (λ (w : ℕ). b + w) (weighed_by 4 (d ∷ bs)) in
    let head : a ≡ b = omega (arith, one, two, s.0, s.1, t.0, t.1) in
    let rest : value_of (c ∷ cs) ≡ value_of (d ∷ bs) = omega (arith, one, two, head) in
    (λ i. head i ∷ same_tail (c ∷ cs) (d ∷ bs) s.2 t.2 rest i)

pub apart : (a b x y : List ℕ) (m n : ℕ) → Spells a m → Spells b n → a ++ x ≡ b ++ y → (a ≡ b) × (m ≡ n)
apart a b x y m n s t e =
    let one = again a x m s in
    let two = again b y n t in
    let both : Read m (length a) ≡ Read n (length b) = sym one ∙ ap number_at e ∙ two in
    let value : m ≡ n = cc both in
    (sym (take_at a x (length a) refl) ∙ (let size : length a ≡ length b = cc both in (λ i. take (size i) (e i))) ∙ take_at b y (length b) refl, value)

long_tail : (e : ℕ) (bs : List ℕ) → IsTail bs → 2 ≤ length bs → 2 ^ (e + 7 * (length bs - 1)) ≤ weighed e bs
long_tail e [] t two = absurd t
long_tail e (b ∷ []) t two = absurd (omega (arith, two))
long_tail e (b ∷ c ∷ []) t two =
    let big : 128 * 2 ^ e ≤ b * 2 ^ e = mul-le 128 (2 ^ e) b (2 ^ e) t.0 (omega arith) in
    omega (arith, power_more e, big)
long_tail e (b ∷ c ∷ d ∷ bs) t two =
    let rest = long_tail (e + 7) (c ∷ d ∷ bs) t.2 (omega arith) in
    let place : e + 7 * (length (b ∷ c ∷ d ∷ bs) - 1) ≡ (e + 7) + 7 * (length (c ∷ d ∷ bs) - 1) = omega arith in
    subst (λ (k : ℕ). 2 ^ k ≤ weighed e (b ∷ c ∷ d ∷ bs)) (sym place) (omega (arith, rest))

-- no spelling has more than ten bytes
pub short_enough : (bs : List ℕ) (v : ℕ) → Spells bs v → length bs ≤ 10
short_enough [] v s = absurd s
short_enough (a ∷ []) v s = omega arith
short_enough (a ∷ b ∷ []) v s = omega arith
short_enough (a ∷ b ∷ c ∷ bs) v s = elim (cases_lt (length bs) 8) [
  | inl few ↦ omega (arith, few)
  | inr many ↦
      let rest = long_tail 4 (b ∷ c ∷ bs) s.2 (omega arith) in
      let place : 64 ≤ 4 + 7 * (length (b ∷ c ∷ bs) - 1) = omega (arith, many) in
      let two : 0 < 2 = omega arith in
      let power : 2 ^ 64 ≤ 2 ^ (4 + 7 * (length (b ∷ c ∷ bs) - 1)) = pow-le-pow_right {n = 2} two place in
      absurd (omega (arith, rest, power, s.3, s.4))
]
