-- The tests that compute agree with the facts.
use Rattle.std.proofs.Common.{◌≡◌, ℕ, zero, suc, ◌+◌, ◌<◌, ◌≤◌, inl, inr, Bool, true, false, cond, List, [], ◌∷◌, ◌++◌, length, get_or, refl, sym, ap, subst, ◌∙◌, arith, append-nil, ne_eqb, lit≤, Option, Some, None}
use Rattle.std.specs.Prelude.{◌↔◌, IsTrue, MatchOption, decimal, bytes_eq, nat_le}
use Rattle.std.specs.Bool.{◌==◌}
use Rattle.std.specs.List.{find, list_all, list_any, range_with_len}
use Rattle.std.proofs.lemmas.Fmt.{decimal_injective}
use Rattle.std.proofs.lemmas.Bool.{and_parts, cases_Bool}
use Rattle.std.proofs.lemmas.Bool.Decides.{nat_tests}
use Rattle.std.proofs.lemmas.List.Folds.{Any-from_list_any, list_any-from_Any, list_any_at}
use Rattle.std.proofs.lemmas.List.FromFn.{get_or-range_with_len, length-range_with_len}
use Rattle.std.proofs.lemmas.Slice.Eq.{bytes_eq-Decides}
use Rattle.std.specs.Net.Grammar.{IsIpText, IsColonHex, IsDotted}
use Rattle.std.specs.Net.Addr.{ipv4_octets, ipv6_segments}
use Rattle.std.specs.Net.Reader.{Read, read_ipv4, read_ipv6, whole_value}
use Rattle.std.proofs.NetLemmas.Ipv4.{read_ipv4_complete, read_ipv4_sound}
use Rattle.std.proofs.NetLemmas.Ipv6.{read_ipv6_complete, read_ipv6_sound, EndsGroups-nil, IsDotted-not_colon_hex}
use Rattle.std.specs.declared.net.ip_addr.IpAddr.{IpAddr}
use Rattle.std.specs.declared.net.ip_addr.IpAddr.TheVariants.{V4, V6}
use Rattle.ip_set.specs.declared.block.Block.{Block}
use Rattle.ip_set.specs.Blocks.{width, HasNoSlash, IsWord, Covers, CoversAt, IsMember, IsIn}
use Rattle.ip_set.specs.Membership.{ip_from, ip_of, covers_at, last_slash, slash_before, bits_of, block_with, cut_block, whole_or_cut, block_of, block_covers, word_covers, any_covers, is_in, is_member}
use Rattle.ip_set.proofs.Words.{no_slash}

not_whole : {A : Type 0} (a : A) (c : ℕ) (rest : List ℕ) → whole_value (Some (a, c ∷ rest)) ≡ None
not_whole {A} a c rest = rw (ne_eqb (length (c ∷ rest)) 0 (omega arith)) refl

not_four : (text segments : List ℕ) → IsColonHex text segments → (r : Read (List ℕ)) → read_ipv4 text ≡ r → whole_value r ≡ None
not_four text segments h None e = refl
not_four text segments h (Some (octets, [])) e =
    let s = read_ipv4_sound text octets [] e in
    absurd (IsDotted-not_colon_hex text octets segments (subst (λ (t : List ℕ). IsDotted t octets) (sym (s.1 ∙ append-nil s.0)) s.2) h)
not_four text segments h (Some (octets, c ∷ rest)) e = not_whole octets c rest

pub gives : (text : List ℕ) (ip : IpAddr) → IsIpText text ip → ip_of text ≡ Some ip
unfolding ip_of
gives text (V4 a) h =
    let four : read_ipv4 text ≡ Some (ipv4_octets a, []) = rw append-nil at (read_ipv4_complete text (ipv4_octets a) [] h (lit≤ tt)) in rw four refl
gives text (V6 a) h =
    let six : read_ipv6 text ≡ Some (ipv6_segments a, []) = rw append-nil at (read_ipv6_complete text (ipv6_segments a) [] h EndsGroups-nil) in
    let none : whole_value (read_ipv4 text) ≡ None = not_four text (ipv6_segments a) h (read_ipv4 text) refl in
    rw (none, six) refl

from_six : (text : List ℕ) (ip : IpAddr) (six : Read (List ℕ)) → read_ipv6 text ≡ six → ip_from None (whole_value six) ≡ Some ip → IsIpText text ip
from_six text ip None e is = cc
from_six text ip (Some (segments, [])) e is =
    let s = read_ipv6_sound text segments [] e in
    let same : V6 (record { segments = segments }) ≡ ip = cc in
    subst (λ (a : IpAddr). IsIpText text a) same (subst (λ (t : List ℕ). IsColonHex t segments) (sym (s.1 ∙ append-nil s.0)) s.2)
from_six text ip (Some (segments, c ∷ rest)) e is =
    let none = rw (not_whole segments c rest) at is in cc

from_both : (text : List ℕ) (ip : IpAddr) (four : Read (List ℕ)) → read_ipv4 text ≡ four → ip_from (whole_value four) (whole_value (read_ipv6 text)) ≡ Some ip → IsIpText text ip
from_both text ip None e is = from_six text ip (read_ipv6 text) refl is
from_both text ip (Some (octets, [])) e is =
    let s = read_ipv4_sound text octets [] e in
    let same : V4 (record { octets = octets }) ≡ ip = cc in
    subst (λ (a : IpAddr). IsIpText text a) same (subst (λ (t : List ℕ). IsDotted t octets) (sym (s.1 ∙ append-nil s.0)) s.2)
from_both text ip (Some (octets, c ∷ rest)) e is =
    from_six text ip (read_ipv6 text) refl (rw (not_whole octets c rest) at is)

pub spelled : (text : List ℕ) (ip : IpAddr) → ip_of text ≡ Some ip → IsIpText text ip
unfolding ip_of
spelled text ip is = from_both text ip (read_ipv4 text) refl is

same_true : (x y : ℕ) → (x == y) ≡ true → x ≡ y
same_true x y e = grind (arith, nat_tests, e)

true_same : (x y : ℕ) → x ≡ y → (x == y) ≡ true
true_same x y e = grind (arith, nat_tests, e)

pub covers_fact : (a : IpAddr) (n : ℕ) (ip : IpAddr) → covers_at a n ip ≡ true → CoversAt a n ip
unfolding covers_at
covers_fact (V4 a) n (V4 b) e = same_true _ _ e
covers_fact (V6 a) n (V6 b) e = same_true _ _ e
covers_fact (V4 a) n (V6 b) e = cc
covers_fact (V6 a) n (V4 b) e = cc

pub covers_test : (a : IpAddr) (n : ℕ) (ip : IpAddr) → CoversAt a n ip → covers_at a n ip ≡ true
unfolding covers_at
covers_test (V4 a) n (V4 b) h = true_same _ _ h
covers_test (V6 a) n (V6 b) h = true_same _ _ h
covers_test (V4 a) n (V6 b) h = absurd h
covers_test (V6 a) n (V4 b) h = absurd h

le_fact : (a b : ℕ) → nat_le a b ≡ true → a ≤ b
le_fact a b e = grind (arith, nat_tests, e)

le_test : (a b : ℕ) → a ≤ b → nat_le a b ≡ true
le_test a b e = grind (arith, nat_tests, e)

no_address : (text : List ℕ) → ip_of text ≡ None → (ip : IpAddr) → ¬ IsIpText text ip
no_address text e ip h = let given = gives text ip h in cc

none_of : (text : List ℕ) → ((ip : IpAddr) → ¬ IsIpText text ip) → (o : Option IpAddr) → ip_of text ≡ o → o ≡ None
none_of text none None e = refl
none_of text none (Some a) e = absurd (none a (spelled text a e))

-- ---- the block that a word names

-- what is found passes the test, and what passes is found, where one value alone does
found : (p : ℕ → Bool) (xs : List ℕ) (n : ℕ) → find p xs ≡ Some n → p n ≡ true
found p [] n e = cc
found p (x ∷ xs) n e = elim (cases_Bool (p x)) [
  | inl is ↦ (let given : Some x ≡ Some n = rw is at e in let same : x ≡ n = cc in subst (λ (m : ℕ). p m ≡ true) same is)
  | inr other ↦ found p xs n (rw other at e)
]

finds : (p q : ℕ → Bool) (xs : List ℕ) (n : ℕ) → list_any p xs ≡ true → list_all q xs ≡ true → ((m : ℕ) → p m ≡ true → q m ≡ true → m ≡ n) → find p xs ≡ Some n
finds p q [] n some all only = cc
finds p q (x ∷ xs) n some all only = elim (cases_Bool (p x)) [
  | inl is ↦ rw is (ap Some (only x is (and_parts (q x) (list_all q xs) all).0))
  | inr other ↦ rw other (finds p q xs n (rw other at some) (and_parts (q x) (list_all q xs) all).1 only)
]

any_range : (p : ℕ → Bool) (n i : ℕ) → i < n → p i ≡ true → list_any p (range_with_len 0 n) ≡ true
any_range p n i below is =
    let same : 0 + i ≡ i = omega arith in
    let at : get_or (range_with_len 0 n) i 0 ≡ i = get_or-range_with_len 0 n i 0 below ∙ same in
    list_any_at p (range_with_len 0 n) i 0 (omega (arith, below, length-range_with_len 0 n)) (rw at is)

bits_fact : (text : List ℕ) (n : ℕ) → bits_of text ≡ Some n → text ≡ decimal n
unfolding bits_of
bits_fact text n e = (bytes_eq-Decides text (decimal n)).0 (found (λ m. bytes_eq text (decimal m)) (range_with_len 0 129) n e)

bits_test : (n : ℕ) → n < 129 → bits_of (decimal n) ≡ Some n
unfolding bits_of
bits_test n few =
    finds (λ m. bytes_eq (decimal n) (decimal m)) (λ m. nat_le m 128) (range_with_len 0 129) n
    (any_range (λ m. bytes_eq (decimal n) (decimal m)) 129 n few ((bytes_eq-Decides (decimal n) (decimal n)).1 refl))
    refl
    (λ m is small.
    let low : m ≤ 128 = le_fact m 128 small in
    decimal_injective m n (omega (arith, low)) (omega (arith, few)) (sym ((bytes_eq-Decides (decimal n) (decimal m)).0 is)))

pair_is : (x y : List ℕ × List ℕ) → Some x ≡ Some y → (x.0 ≡ y.0) × (x.1 ≡ y.1)
pair_is x y e = let pair : x ≡ y = cc in (ap (λ (p : List ℕ × List ℕ). p.0) pair, ap (λ (p : List ℕ × List ℕ). p.1) pair)

-- a text is what stands before and after its last slash
slash_fact : (word front back : List ℕ) → last_slash word ≡ Some (front, back) → word ≡ front ++ 47 ∷ back
slash_fact [] front back e = cc
slash_fact (c ∷ rest) front back e = go (slash_fact rest) (last_slash rest) refl (c == 47) refl e
  where
    go : ((first last : List ℕ) → last_slash rest ≡ Some (first, last) → rest ≡ first ++ 47 ∷ last) → (o : Option (List ℕ × List ℕ)) → last_slash rest ≡ o → (p : Bool) → (c == 47) ≡ p → slash_before c rest o ≡ Some (front, back) → c ∷ rest ≡ front ++ 47 ∷ back
    go more_of (Some x) is p q e =
        let more : rest ≡ x.0 ++ 47 ∷ x.1 = more_of x.0 x.1 is in
        let both = pair_is (c ∷ x.0, x.1) (front, back) e in
        rw (sym both.0, sym both.1) (ap (λ (l : List ℕ). c ∷ l) more)
    go more_of None is true q e =
        let slash : c ≡ 47 = same_true c 47 q in
        let both = pair_is ([], rest) (front, back) (rw q at e) in
        rw (sym both.0, sym both.1, slash) refl
    go more_of None is false q e = let given : None ≡ Some (front, back) = rw q at e in cc

no_slash_found : (text : List ℕ) → HasNoSlash text → last_slash text ≡ None
no_slash_found [] none = refl
no_slash_found (c ∷ rest) none =
    let more : last_slash rest ≡ None = no_slash_found rest (λ k d below. none (suc k) d (omega (arith, below))) in
    let other : (c == 47) ≡ false = ne_eqb c 47 (none zero c (omega arith)) in
    rw (more, other) refl

slash_test : (front back : List ℕ) → HasNoSlash back → last_slash (front ++ 47 ∷ back) ≡ Some (front, back)
slash_test [] back none = rw (no_slash_found back none) refl
slash_test (c ∷ front) back none = rw (slash_test front back none) refl

few_bits : (a : IpAddr) → width a ≤ 128
few_bits (V4 a) = omega arith
few_bits (V6 a) = omega arith

with_fact : (text : List ℕ) (b : Block) (o : Option IpAddr) (n : Option ℕ) → ip_of text ≡ o → block_with o n ≡ Some b → (n ≡ Some b.bits) × IsIpText text b.address × (b.bits ≤ width b.address)
with_fact text b None n e is = cc
with_fact text b (Some a) None e is = cc
with_fact text b (Some a) (Some n) e is = go (nat_le n (width a)) refl is
  where
    go : (p : Bool) → nat_le n (width a) ≡ p → cond p (Some (record { address = a; bits = n })) None ≡ Some b → (Some n ≡ Some b.bits) × IsIpText text b.address × (b.bits ≤ width b.address)
    go true fits is =
        let same : record { address = a; bits = n } ≡ b = cc in
        subst (λ (d : Block). (Some n ≡ Some d.bits) × IsIpText text d.address × (d.bits ≤ width d.address)) same (refl, spelled text a e, le_fact n (width a) fits)
    go false fits is = cc

word_fact : (word : List ℕ) (b : Block) (o : Option IpAddr) → ip_of word ≡ o → whole_or_cut o word ≡ Some b → IsWord word b
word_fact word b (Some a) e is =
    let same : record { address = a; bits = width a } ≡ b = cc in
    subst (λ (d : Block). IsWord word d) same (inl (spelled word a e, refl))
word_fact word b None e is = go (last_slash word) refl is
  where
    go : (o : Option (List ℕ × List ℕ)) → last_slash word ≡ o → cut_block o ≡ Some b → IsWord word b
    go None cut is = cc
    go (Some x) cut is =
        let parts = with_fact x.0 b (ip_of x.0) (bits_of x.1) refl is in
        inr (
          no_address word e,
          x.0,
          slash_fact word x.0 x.1 cut ∙ ap (λ (l : List ℕ). x.0 ++ 47 ∷ l) (bits_fact x.1 b.bits parts.0),
          parts.1,
          parts.2,
        )

word_test : (word : List ℕ) (b : Block) → IsWord word b → block_of word ≡ Some b
unfolding block_of
word_test word b (inl p) = rw (gives word b.address p.0, sym p.1) refl
word_test word b (inr p) =
    let none : ip_of word ≡ None = none_of word p.0 (ip_of word) refl in
    let few : b.bits < 129 = omega (arith, p.4, few_bits b.address) in
    let cut : last_slash word ≡ Some (p.1, decimal b.bits) = ap last_slash p.2 ∙ slash_test p.1 (decimal b.bits) (no_slash b.bits (omega (arith, few))) in
    rw (none, cut, gives p.1 b.address p.3, bits_test b.bits few, le_test b.bits (width b.address) p.4) refl

-- the function gives the block that the word names, and no other
pub names_block : (word : List ℕ) (b : Block) → (block_of word ≡ Some b) ↔ IsWord word b
unfolding block_of
names_block word b = (word_fact word b (ip_of word) refl, word_test word b)

none_named : (word : List ℕ) (o : Option Block) → block_of word ≡ o → ((b : Block) → ¬ IsWord word b) → None ≡ o
none_named word None e none = refl
none_named word (Some b) e none = absurd (none b ((names_block word b).0 e))

-- what names the block that the word names is the function's value
pub block_is : (word : List ℕ) (o : Option Block) → MatchOption o ((b : Block) → ¬ IsWord word b) (λ b. IsWord word b) → o ≡ block_of word
block_is word None none = none_named word (block_of word) refl none
block_is word (Some b) is = sym ((names_block word b).1 is)

covers_word : (word : List ℕ) (ip : IpAddr) (o : Option Block) → block_of word ≡ o → block_covers o ip ≡ true → (b : Block) × IsWord word b × Covers b ip
covers_word word ip None e is = cc
covers_word word ip (Some b) e is = (b, (names_block word b).0 e, covers_fact b.address b.bits ip is)

word_covered : (word : List ℕ) (ip : IpAddr) (b : Block) → IsWord word b → Covers b ip → word_covers ip word ≡ true
word_covered word ip b is covers = rw ((names_block word b).1 is) (covers_test b.address b.bits ip covers)

in_fact : (words : List (List ℕ)) (text : List ℕ) (o : Option IpAddr) → ip_of text ≡ o → any_covers word_covers o words ≡ true → IsIn words text
in_fact words text None e is = cc
in_fact words text (Some ip) e is =
    let a = Any-from_list_any (word_covers ip) words is in
    (ip, spelled text ip e, (a.0, a.1, a.2, a.3, covers_word a.1 ip (block_of a.1) refl a.4))

-- the words' test is membership
pub in_words : (words : List (List ℕ)) (text : List ℕ) → IsTrue (is_in words text) ↔ IsIn words text
unfolding is_in
in_words words text = (
  λ is. in_fact words text (ip_of text) refl is,
  λ h. rw (gives text h.0 h.1) (list_any-from_Any (word_covers h.0) words (h.2.0, h.2.1, h.2.2, h.2.3, word_covered h.2.1 h.0 h.2.4.0 h.2.4.1 h.2.4.2)),
)

member_fact : (blocks : List Block) (text : List ℕ) (o : Option IpAddr) → ip_of text ≡ o → any_covers (λ ip (b : Block). covers_at b.address b.bits ip) o blocks ≡ true → IsMember blocks text
member_fact blocks text None e is = cc
member_fact blocks text (Some ip) e is =
    let a = Any-from_list_any (λ (b : Block). covers_at b.address b.bits ip) blocks is in
    (ip, spelled text ip e, (a.0, a.1, a.2, a.3, covers_fact a.1.address a.1.bits ip a.4))

-- the blocks' test is membership
pub in_blocks : (blocks : List Block) (text : List ℕ) → IsTrue (is_member blocks text) ↔ IsMember blocks text
unfolding is_member
in_blocks blocks text = (
  λ is. member_fact blocks text (ip_of text) refl is,
  λ h. rw (gives text h.0 h.1) (list_any-from_Any (λ (b : Block). covers_at b.address b.bits h.0) blocks
      (h.2.0, h.2.1, h.2.2, h.2.3, covers_test h.2.1.address h.2.1.bits h.0 h.2.4)),
)

one_test : (a b : Bool) → (IsTrue a → IsTrue b) → (IsTrue b → IsTrue a) → a ≡ b
one_test true true f g = refl
one_test true false f g = sym (f refl)
one_test false true f g = g refl
one_test false false f g = refl

-- blocks that were read of words have their members
pub same_test : (words : List (List ℕ)) (blocks : List Block) → ((text : List ℕ) → IsMember blocks text ↔ IsIn words text) → (text : List ℕ) → is_member blocks text ≡ is_in words text
same_test words blocks same text =
    one_test (is_member blocks text) (is_in words text)
    (λ is. (in_words words text).1 ((same text).0 ((in_blocks blocks text).0 is)))
    (λ is. (in_blocks blocks text).1 ((same text).1 ((in_words words text).0 is)))

pub result_is : (blocks : List Block) (text : List ℕ) (result : Bool) → (IsTrue result ↔ IsMember blocks text) → result ≡ is_member blocks text
result_is blocks text result same =
    one_test result (is_member blocks text)
    (λ is. (in_blocks blocks text).1 (same.0 is))
    (λ is. same.1 ((in_blocks blocks text).0 is))
