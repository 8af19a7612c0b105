-- Bytes that are taken one after the other.
use Rattle.std.proofs.Common.{◌≡◌, ◌≢◌, ◌≤◌, ◌<◌, ℕ, Bool, true, false, List, [], ◌∷◌, ◌++◌, length, take, drop, Option, Some, None, refl, sym, ◌∙◌, ap, subst, append_assoc, slice_index_or}
use Rattle.waf_io.specs.Source.{HandsOver}
use Rattle.conn_loop.specs.Ends.{HasEnded}
use Rattle.console.specs.Orders.{Around, IsLine, Takes, around}
use Rattle.console.specs.declared.next.TheConstants.{LINE_FEED}

abbrev known : Option (List ℕ) → List ℕ
known None = []
known (Some bytes) = bytes

told_of : (before now : Option (List ℕ)) → now ≡ before → (input : List ℕ) → before ≡ Some input → (now ≡ Some (known before)) × (input ≡ known before)
told_of before now same input told = let is : input ≡ known before = sym (ap known told) in
    (same ∙ told ∙ ap (λ (l : List ℕ). Some l) is, is)

front_of : (into bytes : List ℕ) → length into ≡ 1 → take 1 into ≡ take 1 bytes → bytes ≡ slice_index_or into 0 0 ∷ drop 1 bytes
front_of [] bytes one same = absurd (cc one)
front_of (c ∷ into) [] one same = absurd (cc same)
front_of (c ∷ into) (b ∷ bytes) one same = let is : b ≡ c = cc same in ap (λ (x : ℕ). x ∷ bytes) is

first_of : (into : List ℕ) (before now : Option (List ℕ)) → length into ≡ 1 → HandsOver 1 into before now → (input : List ℕ) → before ≡ Some input
    → (now ≡ Some (known now)) × (input ≡ slice_index_or into 0 0 ∷ known now)
first_of into None now one hands input told = absurd (cc told)
first_of into (Some bytes) now one hands input told =
    let left : known now ≡ drop 1 bytes = ap known hands.2 in
    let is : input ≡ bytes = cc told in (
      hands.2 ∙ ap (λ (l : List ℕ). Some l) (sym left),
      is ∙ front_of into bytes one hands.1 ∙ ap (λ (l : List ℕ). slice_index_or into 0 0 ∷ l) (sym left),
    )

pub goes_on : (e : Bool) (xs ys : List ℕ) (a b c : Around) → Takes xs false a b → Takes ys e b c → Takes (xs ++ ys) e a c
goes_on e xs ys a b c t u = record {
  rest = u.rest;
  is_taken = λ input told.
      let x = t.is_taken input told in
      let y = u.is_taken t.rest x.0 in
      (y.0, x.1 ∙ ap (λ (l : List ℕ). xs ++ l) y.1 ∙ sym (append_assoc xs ys u.rest));
  has_ended = subst (λ (n : ℕ). HasEnded e u.rest n c.ends) t.has_ended u.has_ended;
}

-- no byte was taken
pub took_none : (a b : Around) → b ≡ a → Takes [] false a b
took_none a b same = record {
  rest = known a.left;
  is_taken = λ input told. told_of a.left b.left (ap (λ (s : Around). s.left) same) input told;
  has_ended = ap (λ (s : Around). s.ends) same;
}

-- one was
pub took_one : (into : List ℕ) (n : ℕ) (a b : Around) → length into ≡ 1 → n ≡ 1 → HandsOver n into a.left b.left → b.ends ≡ a.ends → Takes (slice_index_or into 0 0 ∷ []) false a b
took_one into n a b one count hands ends = record {
  rest = known b.left;
  is_taken = λ input told. first_of into a.left b.left one (subst (λ (m : ℕ). HandsOver m into a.left b.left) count hands) input told;
  has_ended = ends;
}

pub line_grows : (line : List ℕ) (c : ℕ) → IsLine line → c ≢ LINE_FEED → IsLine (line ++ c ∷ [])
line_grows [] c is other = (other, tt)
line_grows (d ∷ line) c is other = (is.0, line_grows line c is.1 other)
