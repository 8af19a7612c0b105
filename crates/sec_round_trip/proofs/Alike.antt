-- Texts that begin and end alike, and of which one has no = and is whole where the other is.
use Rattle.std.proofs.Common.{◌≡◌, ℕ, Bool, true, false, List, [], ◌∷◌, ◌++◌, Option, Some, None, refl, sym, ap, ap₂, ◌∙◌}
use Rattle.std.specs.Prelude.{◌==◌}
use Rattle.std.specs.List.{list_any}
use Rattle.std.proofs.lemmas.Bool.{or_parts}
use Rattle.sec_text.specs.Written.{ends_with_backslash}
use Rattle.sec_round_trip.specs.Actions.{begins_with_sign, has_equals}
use Rattle.sec_round_trip.specs.Operators.{begins_with_blank}
use Rattle.sec_round_trip.specs.Targets.{is_empty}
use Rattle.sec_round_trip.proofs.FineTexts.{FineIf, fine_append}
use Rattle.sec_round_trip.proofs.Places.{any_append}

abbrev pub first_byte : List ℕ → Option ℕ
first_byte [] = None
first_byte (b ∷ text) = Some b

abbrev pub last_byte : List ℕ → Option ℕ
last_byte [] = None
last_byte (b ∷ []) = Some b
last_byte (b ∷ c ∷ text) = last_byte (c ∷ text)

abbrev or_else : Option ℕ → Option ℕ → Option ℕ
or_else None o = o
or_else (Some b) o = Some b

first_append : (xs ys : List ℕ) → first_byte (xs ++ ys) ≡ or_else (first_byte xs) (first_byte ys)
first_append [] ys = refl
first_append (b ∷ xs) ys = refl

last_some : (b : ℕ) (text : List ℕ) (o : Option ℕ) → or_else (last_byte (b ∷ text)) o ≡ last_byte (b ∷ text)
last_some b [] o = refl
last_some b (c ∷ text) o = last_some c text o

pub last_append : (xs ys : List ℕ) → last_byte (xs ++ ys) ≡ or_else (last_byte ys) (last_byte xs)
last_append [] [] = refl
last_append [] (b ∷ ys) = sym (last_some b ys None)
last_append (b ∷ []) [] = refl
last_append (b ∷ []) (c ∷ ys) = sym (last_some c ys (Some b))
last_append (b ∷ c ∷ xs) ys = last_append (c ∷ xs) ys

pub last_is : (xs : List ℕ) (b : ℕ) → last_byte (xs ++ b ∷ []) ≡ Some b
last_is xs b = last_append xs (b ∷ [])

-- ---- what the two bytes say

abbrev is_backslash : Option ℕ → Bool
is_backslash None = false
is_backslash (Some b) = b == 92

pub ends_by_last : (text : List ℕ) → ends_with_backslash text ≡ is_backslash (last_byte text)
ends_by_last [] = refl
ends_by_last (b ∷ []) = refl
ends_by_last (b ∷ c ∷ text) = ends_by_last (c ∷ text)

pub ends_behind : (xs ys : List ℕ) → is_empty ys ≡ false → ends_with_backslash (xs ++ ys) ≡ ends_with_backslash ys
ends_behind xs [] some = absurd cc
ends_behind xs (b ∷ ys) some =
    ends_by_last (xs ++ b ∷ ys) ∙ ap is_backslash (last_append xs (b ∷ ys) ∙ last_some b ys (last_byte xs)) ∙ sym (ends_by_last (b ∷ ys))

abbrev is_none : Option ℕ → Bool
is_none None = true
is_none (Some b) = false

empty_by_first : (text : List ℕ) → is_empty text ≡ is_none (first_byte text)
empty_by_first [] = refl
empty_by_first (b ∷ text) = refl

abbrev is_sign : Option ℕ → Bool
is_sign None = false
is_sign (Some b) = begins_with_sign (b ∷ [])

sign_by_first : (text : List ℕ) → begins_with_sign text ≡ is_sign (first_byte text)
sign_by_first [] = refl
sign_by_first (b ∷ text) = refl

abbrev is_blank_byte : Option ℕ → Bool
is_blank_byte None = false
is_blank_byte (Some b) = begins_with_blank (b ∷ [])

blank_by_first : (text : List ℕ) → begins_with_blank text ≡ is_blank_byte (first_byte text)
blank_by_first [] = refl
blank_by_first (b ∷ text) = refl

-- ---- alike

pub record Alike (k : Bool) (xs ys : List ℕ) : Type 0 where
  pub first : first_byte xs ≡ first_byte ys
  pub last : last_byte xs ≡ last_byte ys
  pub equals : has_equals xs ≡ false → has_equals ys ≡ false
  pub fine : FineIf k xs → FineIf k ys

module _ (k : Bool) where
  pub alike_self : (text : List ℕ) → Alike k text text
  alike_self text = record { first = refl; last = refl; equals = λ h. h; fine = λ h. h }

  pub ends_alike : (xs ys : List ℕ) → Alike k xs ys → ends_with_backslash xs ≡ ends_with_backslash ys
  ends_alike xs ys is = ends_by_last xs ∙ ap is_backslash is.last ∙ sym (ends_by_last ys)

  pub empty_alike : (xs ys : List ℕ) → Alike k xs ys → is_empty xs ≡ is_empty ys
  empty_alike xs ys is = empty_by_first xs ∙ ap is_none is.first ∙ sym (empty_by_first ys)

  pub sign_alike : (xs ys : List ℕ) → Alike k xs ys → begins_with_sign xs ≡ begins_with_sign ys
  sign_alike xs ys is = sign_by_first xs ∙ ap is_sign is.first ∙ sym (sign_by_first ys)

  pub blank_alike : (xs ys : List ℕ) → Alike k xs ys → begins_with_blank xs ≡ begins_with_blank ys
  blank_alike xs ys is = blank_by_first xs ∙ ap is_blank_byte is.first ∙ sym (blank_by_first ys)

  any_split : (p : ℕ → Bool) (xs ys : List ℕ) → list_any p (xs ++ ys) ≡ false → (list_any p xs ≡ false) × (list_any p ys ≡ false)
  any_split p [] ys h = (refl, h)
  any_split p (b ∷ xs) ys h =
      let parts = or_parts (p b) (list_any p (xs ++ ys)) h in
      let rest = any_split p xs ys parts.1 in
      (rw parts.0 rest.0, rest.1)

  pub alike_append : (vs ws xs ys : List ℕ) → (FineIf k (vs ++ ws) → FineIf k vs × FineIf k ws) → Alike k vs xs → Alike k ws ys → Alike k (vs ++ ws) (xs ++ ys)
  alike_append vs ws xs ys cut a b = record {
    first = first_append vs ws ∙ ap₂ or_else a.first b.first ∙ sym (first_append xs ys);
    last = last_append vs ws ∙ ap₂ or_else b.last a.last ∙ sym (last_append xs ys);
    equals = λ h. let parts = any_split (λ c. c == 61) vs ws h in any_append (λ c. c == 61) xs ys (a.equals parts.0) (b.equals parts.1);
    fine = λ h. let parts = cut h in fine_append k xs ys (a.fine parts.0) (b.fine parts.1);
  }
