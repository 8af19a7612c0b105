-- The ten types.
use Rattle.std.proofs.Common.{suc, ◌≡◌, ◌≢◌, ◌↔◌, ℕ, ◌%◌, ◌<◌, ◌^◌, Bool, true, false, cond, not, eqb, IsTrue, List, [], ◌∷◌, ◌++◌, length, Option, Some, ℤ, pos, negsuc, FitsSigned, refl, sym, ◌∙◌, ap, subst, arith, rules, bit_and}
use Rattle.std.proofs.lemmas.Bool.{lt-ltb, ltb-true, eqb-true}
use Rattle.std.proofs.lemmas.Bool.Decides.{nat_tests}
use Rattle.std.proofs.lemmas.Int.{to_z-of_z, of_z-to_z}
use Rattle.std.proofs.Math.Facts.{sfits_to_z}
use Rattle.std.specs.Int.{cast_signed, cast_unsigned, w32, w64}
use Rattle.spop_varint.specs.Varint.{Spells}
use Rattle.spop_varint.proofs.Laws.{IsBytes}
use Rattle.spop_data.specs.Data.{code_of, SpellsValue, SpellsData}
use Rattle.spop_data.specs.Reading.{varint_at, cut_at, counted_at, is_int32, int32_at, uint32_at, int64_at, uint64_at, ipv4_at, ipv6_at, text_at, binary_at, typed_at, value_at, data_at}
use Rattle.spop_data.specs.declared.value.Data as values
use Rattle.spop_data.specs.declared.value.Data.TheVariants as types
use Rattle.spop_data.proofs.Steps.{Meets, bind_some, guard_some, some_is}
use Rattle.spop_data.proofs.Numbers.{varint, cut_found, cut_again, counted}

pick : {A F : Type 0} (b : Bool) (o p : Option A) (y : A) → cond b o p ≡ Some y → (b ≡ true → o ≡ Some y → F) → (p ≡ Some y → F) → F
pick true o p y e yes_ no_ = yes_ refl e
pick false o p y e yes_ no_ = no_ e

-- what was found behind the first byte
pub record Found (code kind : ℕ) (bytes : List ℕ) (d : values.Data) (rest : List ℕ) : Type 0 where
  pub value : List ℕ
  pub code_is : code ≡ code_of d
  pub spelled : SpellsValue kind value d
  pub is : bytes ≡ value ++ rest

found_as : (code kind : ℕ) (bytes : List ℕ) (d e : values.Data) (rest more : List ℕ) → ◌≡◌ {A = Option (values.Data × List ℕ)} (Some (d, rest)) (Some (e, more)) → Found code kind bytes d rest → Found code kind bytes e more
found_as code kind bytes d e rest more same f =
    let both = some_is (d, rest) (e, more) same in
    subst (λ (p : values.Data × List ℕ). Found code kind bytes p.0 p.1) both f

word_below : (bytes : List ℕ) (v : ℕ) → Spells bytes v → v < 2 ^ 64
word_below [] v s = absurd s
word_below (a ∷ []) v s = omega (arith, s.0, s.1)
word_below (a ∷ b ∷ bs) v s = s.4

-- the word of a signed number
signed : (bytes : List ℕ) (v : ℕ) → Spells bytes v → Spells bytes (cast_unsigned w64 (cast_signed w64 v))
signed bytes v s = subst (λ (w : ℕ). Spells bytes w) (sym (of_z-to_z w64 v (word_below bytes v s))) s

fits_int32 : (z : ℤ) → is_int32 z ≡ true → FitsSigned w32 z
fits_int32 (pos n) e = record { sfits = ltb-true n (2 ^ 31) e }
fits_int32 (negsuc n) e = record { sfits = ltb-true n (2 ^ 31) e }

is_int32_of : (z : ℤ) → FitsSigned w32 z → is_int32 z ≡ true
is_int32_of (pos n) f = lt-ltb n (2 ^ 31) f.sfits
is_int32_of (negsuc n) f = lt-ltb n (2 ^ 31) f.sfits

pub widened : (z : ℤ) → FitsSigned w32 z → FitsSigned w64 z
widened (pos n) f = record { sfits = omega (arith, f.sfits) }
widened (negsuc n) f = record { sfits = omega (arith, f.sfits) }

fits_int64 : (v : ℕ) → v < 2 ^ 64 → FitsSigned w64 (cast_signed w64 v)
fits_int64 v small = sfits_to_z {w = w64} {n = v} (record { fits = small })

flag_found : (n : ℕ) → IsTrue (not (eqb n 0)) ↔ (n ≢ 0)
flag_found n = search (rules, nat_tests)

flag_again : (b : Bool) (n : ℕ) → (IsTrue b ↔ (n ≢ 0)) → not (eqb n 0) ≡ b
flag_again b n h = grind (arith, nat_tests)

module _ (kind : ℕ) (bytes : List ℕ) (d : values.Data) (rest : List ℕ) (all : IsBytes bytes) where
  int32_found : int32_at bytes ≡ Some (d, rest) → Found 2 kind bytes d rest
  unfolding int32_at
  int32_found e =
      let b = bind_some (varint_at bytes) _ _ e in
      let g = guard_some _ _ _ b.2 in
      let n = varint.found bytes b.0.0 b.0.1 all b.1 in
      found_as 2 kind bytes (types.Int32 (cast_signed w64 b.0.0)) d b.0.1 rest g.1 (record { value = n.0; code_is = refl; spelled = (signed n.0 b.0.0 n.1, fits_int32 (cast_signed w64 b.0.0) g.0); is = n.2 })

  uint32_found : uint32_at bytes ≡ Some (d, rest) → Found 3 kind bytes d rest
  unfolding uint32_at
  uint32_found e =
      let b = bind_some (varint_at bytes) _ _ e in
      let g = guard_some _ _ _ b.2 in
      let n = varint.found bytes b.0.0 b.0.1 all b.1 in
      found_as 3 kind bytes (types.Uint32 b.0.0) d b.0.1 rest g.1 (record { value = n.0; code_is = refl; spelled = (n.1, ltb-true b.0.0 (2 ^ 32) g.0); is = n.2 })

  int64_found : int64_at bytes ≡ Some (d, rest) → Found 4 kind bytes d rest
  unfolding int64_at
  int64_found e =
      let b = bind_some (varint_at bytes) _ _ e in
      let n = varint.found bytes b.0.0 b.0.1 all b.1 in
      found_as 4 kind bytes (types.Int64 (cast_signed w64 b.0.0)) d b.0.1 rest b.2 (record { value = n.0; code_is = refl; spelled = (signed n.0 b.0.0 n.1, fits_int64 b.0.0 (word_below n.0 b.0.0 n.1)); is = n.2 })

  uint64_found : uint64_at bytes ≡ Some (d, rest) → Found 5 kind bytes d rest
  unfolding uint64_at
  uint64_found e =
      let b = bind_some (varint_at bytes) _ _ e in
      let n = varint.found bytes b.0.0 b.0.1 all b.1 in
      found_as 5 kind bytes (types.Uint64 b.0.0) d b.0.1 rest b.2 (record { value = n.0; code_is = refl; spelled = n.1; is = n.2 })

  ipv4_found : ipv4_at bytes ≡ Some (d, rest) → Found 6 kind bytes d rest
  unfolding ipv4_at
  ipv4_found e =
      let b = bind_some (cut_at 4 bytes) _ _ e in
      let cut = cut_found 4 bytes b.0.0 b.0.1 b.1 in
      found_as 6 kind bytes (types.Ipv4 b.0.0) d b.0.1 rest b.2 (record { value = b.0.0; code_is = refl; spelled = (refl, cut.0); is = cut.1 })

  ipv6_found : ipv6_at bytes ≡ Some (d, rest) → Found 7 kind bytes d rest
  unfolding ipv6_at
  ipv6_found e =
      let b = bind_some (cut_at 16 bytes) _ _ e in
      let cut = cut_found 16 bytes b.0.0 b.0.1 b.1 in
      found_as 7 kind bytes (types.Ipv6 b.0.0) d b.0.1 rest b.2 (record { value = b.0.0; code_is = refl; spelled = (refl, cut.0); is = cut.1 })

  text_found : text_at bytes ≡ Some (d, rest) → Found 8 kind bytes d rest
  unfolding text_at
  text_found e =
      let b = bind_some (counted_at bytes) _ _ e in
      let t = counted.found bytes b.0.0 b.0.1 all b.1 in
      found_as 8 kind bytes (types.Text b.0.0) d b.0.1 rest b.2 (record { value = t.0; code_is = refl; spelled = t.1; is = t.2 })

  binary_found : binary_at bytes ≡ Some (d, rest) → Found 9 kind bytes d rest
  unfolding binary_at
  binary_found e =
      let b = bind_some (counted_at bytes) _ _ e in
      let t = counted.found bytes b.0.0 b.0.1 all b.1 in
      found_as 9 kind bytes (types.Binary b.0.0) d b.0.1 rest b.2 (record { value = t.0; code_is = refl; spelled = t.1; is = t.2 })

  -- the type of that number, or one behind it
  by_code : (code n : ℕ) → eqb code n ≡ true → Found n kind bytes d rest → Found code kind bytes d rest
  by_code code n is f = subst (λ (k : ℕ). Found k kind bytes d rest) (sym (eqb-true code n is)) f

  typed_found : (code : ℕ) → typed_at code kind bytes ≡ Some (d, rest) → Found code kind bytes d rest
  typed_found code e =
      pick _ _ _ _ e (λ is h. by_code code 0 is (found_as 0 kind bytes _ d _ rest h (record { value = []; code_is = refl; spelled = refl; is = refl })))
      (λ e1. pick _ _ _ _ e1 (λ is h. by_code code 1 is (found_as 1 kind bytes _ d _ rest h (record { value = []; code_is = refl; spelled = (refl, flag_found (bit_and kind 16)); is = refl })))
      (λ e2. pick _ _ _ _ e2 (λ is h. by_code code 2 is (int32_found h))
      (λ e3. pick _ _ _ _ e3 (λ is h. by_code code 3 is (uint32_found h))
      (λ e4. pick _ _ _ _ e4 (λ is h. by_code code 4 is (int64_found h))
      (λ e5. pick _ _ _ _ e5 (λ is h. by_code code 5 is (uint64_found h))
      (λ e6. pick _ _ _ _ e6 (λ is h. by_code code 6 is (ipv4_found h))
      (λ e7. pick _ _ _ _ e7 (λ is h. by_code code 7 is (ipv6_found h))
      (λ e8. pick _ _ _ _ e8 (λ is h. by_code code 8 is (text_found h))
      (λ e9. let last = guard_some _ _ _ e9 in by_code code 9 last.0 (binary_found last.1))))))))))

-- what is spelled behind the first byte is read
typed_again : (kind : ℕ) (value rest : List ℕ) (d : values.Data) → SpellsValue kind value d → typed_at (code_of d) kind (value ++ rest) ≡ Some (d, rest)
unfolding int32_at uint32_at int64_at uint64_at ipv4_at ipv6_at text_at binary_at
typed_again kind value rest types.Null s = ap (λ (l : List ℕ). Some (types.Null, l ++ rest)) s
typed_again kind value rest (types.Bool b) s = (λ i. Some (types.Bool (flag_again b (bit_and kind 16) s.1 i), s.0 i ++ rest))
typed_again kind value rest (types.Int32 z) s =
    let word = cast_unsigned w64 z in
    let back : cast_signed w64 word ≡ z = to_z-of_z w64 z (widened z s.1) in
    let test : is_int32 (cast_signed w64 word) ≡ true = ap is_int32 back ∙ is_int32_of z s.1 in
    rw (varint.again value rest word s.0, test) (ap (λ (y : ℤ). Some (types.Int32 y, rest)) back)
typed_again kind value rest (types.Uint32 n) s = rw (varint.again value rest n s.0, lt-ltb n (2 ^ 32) s.1) refl
typed_again kind value rest (types.Int64 z) s =
    let word = cast_unsigned w64 z in
    rw (varint.again value rest word s.0) (ap (λ (y : ℤ). Some (types.Int64 y, rest)) (to_z-of_z w64 z s.1))
typed_again kind value rest (types.Uint64 n) s = rw (varint.again value rest n s) refl
typed_again kind value rest (types.Ipv4 address) s = rw (cut_again 4 value rest (ap length s.0 ∙ s.1)) (ap (λ (l : List ℕ). Some (types.Ipv4 l, rest)) s.0)
typed_again kind value rest (types.Ipv6 address) s = rw (cut_again 16 value rest (ap length s.0 ∙ s.1)) (ap (λ (l : List ℕ). Some (types.Ipv6 l, rest)) s.0)
typed_again kind value rest (types.Text text) s = rw (counted.again value rest text s) refl
typed_again kind value rest (types.Binary text) s = rw (counted.again value rest text s) refl

data_found : (bytes : List ℕ) (d : values.Data) (rest : List ℕ) → IsBytes bytes → data_at bytes ≡ Some (d, rest) → (front : List ℕ) × SpellsData front d × (bytes ≡ front ++ rest)
unfolding value_at
data_found [] d rest all e = absurd cc
data_found (kind ∷ bytes) d rest all e =
    let f = typed_found kind bytes d rest (λ i. all (suc i)) (kind % 16) e in
    (kind ∷ f.value, record { kind = kind; value = f.value; byte = all 0; is = refl; code = f.code_is; spelled = f.spelled }, ap (λ (l : List ℕ). kind ∷ l) f.is)

data_again : (front rest : List ℕ) (d : values.Data) → SpellsData front d → data_at (front ++ rest) ≡ Some (d, rest)
unfolding value_at
data_again front rest d s =
    ap (λ (l : List ℕ). data_at (l ++ rest)) s.is
    ∙ ap (λ (code : ℕ). typed_at code s.kind (s.value ++ rest)) s.code
    ∙ typed_again s.kind s.value rest d s.spelled

pub value : Meets data_at SpellsData
value = record { found = data_found; again = data_again }
