-- Numbers, cuts and words.
use Rattle.std.proofs.Common.{◌≡◌, ℕ, zero, suc, ◌+◌, ◌-◌, ◌%◌, ◌^◌, ◌<◌, ◌≤◌, inl, inr, List, [], ◌∷◌, ◌++◌, length, get_or, take, drop, refl, sym, ap, subst, ◌∙◌, arith, length-append}
use Rattle.std.specs.Prelude.{◌≢◌, ◌↔◌, decimal, Some, None, true, false}
use Rattle.std.specs.Bool.{◌==◌}
use Rattle.std.proofs.lemmas.Bool.{cases_lt}
use Rattle.std.proofs.lemmas.Bool.Decides.{nat_tests}
use Rattle.std.specs.Str.Parse.{IsNumeral, AllDigits, digits_value, without_leading_plus}
use Rattle.std.proofs.lemmas.Str.Parse.{numerals_by_value, tells_digits}
use Rattle.std.specs.declared.net.ip_addr.IpAddr.TheVariants.{V4, V6}
use Rattle.std.proofs.Common.{Result, Ok, Err}
use Rattle.std.proofs.lemmas.Fmt.{parse-decimal, decimal-digits_value, decimal_digit, decimal_by_steps, first_decimal, decimal_injective, IsAscii-decimal}
use Rattle.std.proofs.Math.Seq.{get_or-append_seam, take-append_seam, drop-append-add}
use Rattle.std.proofs.lemmas.List.{get_or-append-add, get_or_default, take_more}
use Rattle.std.proofs.lemmas.List.Elements.{All-append}
use Rattle.std.specs.Str.{IsUtf8}
use Rattle.std.specs.List.{AllZip}
use Rattle.std.proofs.lemmas.Str.{IsUtf8-from_ascii}
use Rattle.std.specs.Net.Grammar.{IsIpText}
use Rattle.std.specs.declared.net.ip_addr.IpAddr.{IpAddr}
use Rattle.std.proofs.NetLemmas.Theorems.{IsIpText_unique}
use Rattle.memchr.specs.Find.{IsLastByte, is_byte, Passes}
use Rattle.ip_set.specs.declared.block.Block.{Block}
use Rattle.ip_set.specs.Blocks.{width, IsWord, HasNoSlash, HasPlainFront, Covers, CoversAt, IsMember, IsIn}

single : (c : ℕ) → c ≢ 47 → HasNoSlash (c ∷ [])
single c other zero d below = other
single c other (suc k) d below = absurd (omega arith)

pub no_slash : (n : ℕ) → n < 2 ^ 64 → HasNoSlash (decimal n)
no_slash n small = decimal_by_steps (λ m ds. HasNoSlash ds)
    (λ m below. single (48 + m) (λ e. absurd (omega (arith, e))))
    (λ m ds large front. All-append (λ c. c ≢ 47) ds ((48 + m % 10) ∷ []) front (single (48 + m % 10) (λ e. absurd (omega (arith, e)))))
    n small

large_front : (text : List ℕ) → 48 < get_or text 0 0 → HasPlainFront text
large_front [] large = tt
large_front (c ∷ []) large = λ e. absurd (omega (arith, large, e))
large_front (c ∷ d ∷ rest) large = (λ e. absurd (omega (arith, large, e)), λ e. absurd (omega (arith, large, e)))

plain_front : (n : ℕ) → n < 2 ^ 64 → HasPlainFront (decimal n)
plain_front zero small = subst HasPlainFront (sym (decimal_digit 0 (omega arith))) (λ e. absurd (omega (arith, e)))
plain_front (suc n) small = large_front (decimal (suc n)) (first_decimal (suc n) (omega arith) small)

pub front_of : (text : List ℕ) (n : ℕ) → n < 256 → text ≡ decimal n → HasPlainFront text
front_of text n small e = subst HasPlainFront (sym e) (plain_front n (omega arith))

pub utf8_of : (text : List ℕ) (n : ℕ) → n < 256 → text ≡ decimal n → IsUtf8 text
utf8_of text n small e = subst IsUtf8 (sym e) (IsUtf8-from_ascii (decimal n) (IsAscii-decimal n (omega arith)))

-- the last slash is the one that no other follows
passes : (word a b : List ℕ) → word ≡ a ++ 47 ∷ b → Passes (is_byte 47) word (length a)
passes word a b e = rw (e, get_or-append_seam a 47 b 0) refl

is_slash : (c : ℕ) → (c == 47) ≡ true → c ≡ 47
is_slash c e = grind (arith, nat_tests, e)

length_of : (word a b : List ℕ) → word ≡ a ++ 47 ∷ b → length word ≡ length a + 1 + length b
length_of word a b e = rw e (omega (arith, length-append a (47 ∷ b)))

none_behind : (word a b : List ℕ) (j : ℕ) → word ≡ a ++ 47 ∷ b → HasNoSlash b → j < length b → get_or word (length a + suc j) 0 ≡ 47 → ⊥
none_behind word a b j e none below hit =
    let there : get_or word (length a + suc j) 0 ≡ get_or b j 0 = rw e (get_or-append-add a (47 ∷ b) (suc j) 0) in
    none j 0 below (sym there ∙ hit)

pub last_slash : (word a b : List ℕ) (at : ℕ) → word ≡ a ++ 47 ∷ b → HasNoSlash b → IsLastByte (is_byte 47) word (Some at) → at ≡ length a
last_slash word a b at e none last =
    let long = length_of word a b e in
    let high = last.0.high in
    (elim (cases_lt at (length a)) [
      | inl below ↦ absurd (last.0.after (length a) (omega (arith, below)) (omega (arith, long)) (passes word a b e))
      | inr past ↦ (elim (cases_lt (length a) at) [
        | inl above ↦
            (let j = at - length a - 1 in
            let place : at ≡ length a + suc j = omega (arith, above) in
            let hit : get_or word at 0 ≡ 47 = is_slash _ last.1 in
            absurd (none_behind word a b j e none (omega (arith, long, high, above)) (ap (λ (k : ℕ). get_or word k 0) (sym place) ∙ hit)))
        | inr same ↦ omega (arith, past, same)
      ])
    ])

pub some_slash : (word a b : List ℕ) → word ≡ a ++ 47 ∷ b → IsLastByte (is_byte 47) word None → ⊥
some_slash word a b e none = none (length a) (omega arith) (omega (arith, length_of word a b e)) (passes word a b e)

pub cut_at : (word a b : List ℕ) (at : ℕ) → word ≡ a ++ 47 ∷ b → HasNoSlash b → IsLastByte (is_byte 47) word (Some at) → (take at word ≡ a) × (drop (at + 1) word ≡ b)
cut_at word a b at e none last =
    let place = last_slash word a b at e none last in
    (rw (place, e) (take-append_seam a (47 ∷ b)), rw (place, e) (drop-append-add a (47 ∷ b) 1))

fails : Result ℕ (Unit {0})
fails = Err tt

pub parse_fails : (text : List ℕ) (n : ℕ) → n < 256 → text ≡ decimal n → ¬ (IsNumeral 10 (without_leading_plus text) × (digits_value 10 (without_leading_plus text) < 2 ^ 8)) → ⊥
unfolding fails
parse_fails text n small e none =
    let r : fails ≡ Ok n = parse-decimal {E = Unit {0}} 8 n text fails small (omega arith) e none in cc

no_plus : (text : List ℕ) → HasPlainFront text → without_leading_plus text ≡ text
no_plus [] front = refl
no_plus (c ∷ []) front = let e : (c == 43) ≡ false = grind (arith, nat_tests, front) in rw e refl
no_plus (c ∷ d ∷ rest) front = let e : (c == 43) ≡ false = grind (arith, nat_tests, front.0) in rw e refl

no_zero : (text : List ℕ) → HasPlainFront text → 0 < length text → get_or text 0 0 ≡ 48 → length text ≡ 1
no_zero [] front some e = absurd (omega arith)
no_zero (c ∷ []) front some e = refl
no_zero (c ∷ d ∷ rest) front some e = absurd (front.1 e)

pub parse_gives : (text : List ℕ) (n : ℕ) → HasPlainFront text → (IsNumeral 10 (without_leading_plus text) × (digits_value 10 (without_leading_plus text) < 2 ^ 8)) × (n ≡ digits_value 10 (without_leading_plus text)) → text ≡ decimal n
parse_gives text n front h =
    let e = no_plus text front in
    let k = rw e at h in
    let own = numerals_by_value (AllDigits 10) tells_digits in
    sym (rw k.1 (decimal-digits_value own text k.0.0.1 k.0.0.0 (no_zero text front k.0.0.0) (omega (arith, k.0.1))))

width_small : (a : IpAddr) → width a ≤ 128
width_small (V4 a) = omega arith
width_small (V6 a) = omega arith

-- a word that is no address is cut into an address and a number
pub parts : (word : List ℕ) (b : Block) → ((a : IpAddr) → ¬ IsIpText word a) → IsWord word b → (address : List ℕ) × (word ≡ address ++ 47 ∷ decimal b.bits) × HasNoSlash (decimal b.bits) × IsIpText address b.address × (b.bits ≤ width b.address) × (b.bits < 256)
parts word b none (inl whole) = absurd (none b.address whole.0)
parts word b none (inr p) = (p.1, p.2, no_slash b.bits (omega (arith, p.4, width_small b.address)), p.3, p.4, omega (arith, p.4, width_small b.address))

pub too_many : (text number address : List ℕ) (a : IpAddr) (b : Block) (n : ℕ) → IsIpText text a → number ≡ decimal n → n < 256 → width a < n → text ≡ address → number ≡ decimal b.bits → IsIpText address b.address → b.bits ≤ width b.address → b.bits < 256 → ⊥
too_many text number address a b n text_is number_is small large same_text same_number address_is fits bits_small =
    let bits : n ≡ b.bits = decimal_injective n b.bits (omega (arith, small)) (omega (arith, bits_small)) (sym number_is ∙ same_number) in
    let same : a ≡ b.address = IsIpText_unique address a b.address (subst (λ (t : List ℕ). IsIpText t a) same_text text_is) address_is in
    let w : width a ≡ width b.address = ap width same in
    absurd (omega (arith, bits, w, large, fits))

pub more_words : (xs : List (List ℕ)) (ys : List Block) (x : List ℕ) (y : Block) → AllZip IsWord xs ys → IsWord x y → AllZip IsWord (xs ++ x ∷ []) (ys ++ y ∷ [])
more_words [] [] x y zip is = (is, tt)
more_words [] (b ∷ ys) x y zip is = absurd zip
more_words (a ∷ xs) [] x y zip is = absurd zip
more_words (a ∷ xs) (b ∷ ys) x y zip is = (zip.0, more_words xs ys x y zip.1 is)

item_is : (words items : List (List ℕ)) (i : ℕ) (item : List ℕ) → items ≡ words → i < length items → item ≡ get_or items i item → item ≡ get_or words i []
item_is words items i item same below is = is ∙ get_or_default items i item [] below ∙ ap (λ (l : List (List ℕ)). get_or l i []) same

pub zip_turn : (words items : List (List ℕ)) (blocks more : List Block) (i : ℕ) (item : List ℕ) (b : Block) → items ≡ words → i < length items → item ≡ get_or items i item → IsWord item b → AllZip IsWord (take i words) blocks → more ≡ blocks ++ b ∷ [] → AllZip IsWord (take (i + 1) words) more
zip_turn words items blocks more i item b same below is word zip more_is =
    let here = item_is words items i item same below is in
    let long : i < length words = omega (arith, below, ap length same) in
    let front : take (i + 1) words ≡ take i words ++ get_or words i [] ∷ [] = take_more words i [] long in
    rw (more_is, front) (more_words (take i words) blocks (get_or words i []) b zip (subst (λ (w : List ℕ). IsWord w b) here word))

pub good_turn : (words items : List (List ℕ)) (i : ℕ) (item : List ℕ) (b : Block) → items ≡ words → i < length items → item ≡ get_or items i item → IsWord item b → ((k : ℕ) → k < i → (d : Block) × IsWord (get_or words k []) d) → (k : ℕ) → k < i + 1 → (d : Block) × IsWord (get_or words k []) d
good_turn words items i item b same below is word good k next = elim (cases_lt k i) [
  | inl before ↦ good k before
  | inr past ↦ (let e : i ≡ k = omega (arith, past, next) in
      (b, subst (λ (w : List ℕ). IsWord w b) (item_is words items i item same below is ∙ ap (λ (n : ℕ). get_or words n []) e) word))
]

-- a word that names no block is in no list of words that do
pub none_bad : (xs : List (List ℕ)) (ys : List Block) (k : ℕ) → AllZip IsWord xs ys → k < length xs → ((b : Block) → ¬ IsWord (get_or xs k []) b) → ⊥
none_bad [] ys k zip below bad = absurd (omega arith)
none_bad (x ∷ xs) [] k zip below bad = absurd zip
none_bad (x ∷ xs) (y ∷ ys) zero zip below bad = bad y zip.0
none_bad (x ∷ xs) (y ∷ ys) (suc k) zip below bad = none_bad xs ys k zip.1 (omega arith) bad

-- a text is cut at its last slash in one way
split_once : (a c b d : List ℕ) → HasNoSlash b → HasNoSlash d → a ++ 47 ∷ b ≡ c ++ 47 ∷ d → (a ≡ c) × (b ≡ d)
split_once [] [] b d left right e = (refl, cc)
split_once [] (y ∷ c) b d left right e =
    let rest : b ≡ c ++ 47 ∷ d = cc in
    let at : get_or b (length c) 0 ≡ 47 = rw (rest, get_or-append_seam c 47 d 0) refl in
    let long : length c < length b = omega (arith, ap length rest, length-append c (47 ∷ d)) in
    absurd (left (length c) 0 long at)
split_once (x ∷ a) [] b d left right e =
    let rest : d ≡ a ++ 47 ∷ b = cc in
    let at : get_or d (length a) 0 ≡ 47 = rw (rest, get_or-append_seam a 47 b 0) refl in
    let long : length a < length d = omega (arith, ap length rest, length-append a (47 ∷ b)) in
    absurd (right (length a) 0 long at)
split_once (x ∷ a) (y ∷ c) b d left right e =
    let same : x ≡ y = cc in
    let rest : a ++ 47 ∷ b ≡ c ++ 47 ∷ d = cc in
    let both = split_once a c b d left right rest in
    (cc (same, both.0), both.1)

-- blocks that one word names cover the same
same_cover : (word : List ℕ) (b d : Block) (ip : IpAddr) → IsWord word b → IsWord word d → Covers b ip → Covers d ip
same_cover word b d ip (inl p) (inl q) covers =
    let address = IsIpText_unique word b.address d.address p.0 q.0 in
    let bits : b.bits ≡ d.bits = p.1 ∙ ap width address ∙ sym q.1 in
    subst (λ (n : ℕ). CoversAt d.address n ip) bits (subst (λ (a : IpAddr). CoversAt a b.bits ip) address covers)
same_cover word b d ip (inl p) (inr q) covers = absurd (q.0 b.address p.0)
same_cover word b d ip (inr p) (inl q) covers = absurd (p.0 d.address q.0)
same_cover word b d ip (inr p) (inr q) covers =
    let few : b.bits < 2 ^ 64 = omega (arith, p.4, width_small b.address) in
    let few' : d.bits < 2 ^ 64 = omega (arith, q.4, width_small d.address) in
    let both = split_once p.1 q.1 (decimal b.bits) (decimal d.bits) (no_slash b.bits few) (no_slash d.bits few') (sym p.2 ∙ q.2) in
    let address = IsIpText_unique q.1 b.address d.address (subst (λ (t : List ℕ). IsIpText t b.address) both.0 p.3) q.3 in
    let bits : b.bits ≡ d.bits = decimal_injective b.bits d.bits few few' both.1 in
    subst (λ (n : ℕ). CoversAt d.address n ip) bits (subst (λ (a : IpAddr). CoversAt a b.bits ip) address covers)

word_at : (xs : List (List ℕ)) (ys : List Block) (k : ℕ) (y : Block) → AllZip IsWord xs ys → k < length ys → get_or ys k y ≡ y
    → (x : List ℕ) × (k < length xs) × (get_or xs k x ≡ x) × IsWord x y
word_at xs [] k y zip below is = absurd (omega arith)
word_at [] (b ∷ ys) k y zip below is = absurd zip
word_at (x ∷ xs) (b ∷ ys) zero y zip below is = (x, omega arith, refl, subst (λ (d : Block). IsWord x d) is zip.0)
word_at (x ∷ xs) (b ∷ ys) (suc k) y zip below is =
    let w = word_at xs ys k y zip.1 (omega arith) is in (w.0, omega (arith, w.1), w.2, w.3)

block_at : (xs : List (List ℕ)) (ys : List Block) (k : ℕ) (x : List ℕ) → AllZip IsWord xs ys → k < length xs → get_or xs k x ≡ x
    → (y : Block) × (k < length ys) × (get_or ys k y ≡ y) × IsWord x y
block_at [] ys k x zip below is = absurd (omega arith)
block_at (a ∷ xs) [] k x zip below is = absurd zip
block_at (a ∷ xs) (b ∷ ys) zero x zip below is = (b, omega arith, refl, subst (λ (w : List ℕ). IsWord w b) is zip.0)
block_at (a ∷ xs) (b ∷ ys) (suc k) x zip below is =
    let w = block_at xs ys k x zip.1 (omega arith) is in (w.0, omega (arith, w.1), w.2, w.3)

-- membership in the blocks is membership in the words
pub same_members : (words : List (List ℕ)) (set : List Block) → AllZip IsWord words set → (text : List ℕ) → IsMember set text ↔ IsIn words text
same_members words set zip text = (
  λ m. (let w = word_at words set m.2.0 m.2.1 zip m.2.2 m.2.3 in (m.0, m.1, (m.2.0, w.0, w.1, w.2, (m.2.1, w.3, m.2.4)))),
  λ i. (let w = block_at words set i.2.0 i.2.1 zip i.2.2 i.2.3 in
      (i.0, i.1, (i.2.0, w.0, w.1, w.2, same_cover i.2.1 i.2.4.0 w.0 i.0 i.2.4.1 w.3 i.2.4.2))),
)
