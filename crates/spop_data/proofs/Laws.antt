-- Pairs, and several of them.
use Rattle.std.proofs.Common.{◌≡◌, ℕ, List, ◌++◌, Some, refl, sym, ◌∙◌, ap, subst, append_assoc}
use Rattle.spop_varint.proofs.Laws.{IsBytes}
use Rattle.spop_data.specs.Lists.{several_at}
use Rattle.spop_data.specs.Data.{SpellsPair, SpellsPairs}
use Rattle.spop_data.specs.Reading.{counted_at, data_at, pair_at, pairs_at}
use Rattle.spop_data.specs.declared.value.Pair.{Pair}
use Rattle.spop_data.proofs.Steps.{Meets, bind_some, some_is, bytes_rest}
use Rattle.spop_data.proofs.Numbers.{counted}
use Rattle.spop_data.proofs.Types.{value}
use Rattle.spop_data.proofs.Items.{several_found, several_again}

pair_found : (bytes : List ℕ) (p : Pair) (rest : List ℕ) → IsBytes bytes → pair_at bytes ≡ Some (p, rest) → (front : List ℕ) × SpellsPair front p × (bytes ≡ front ++ rest)
unfolding pair_at
pair_found bytes p rest all e =
    let b = bind_some (counted_at bytes) _ _ e in
    let n = counted.found bytes b.0.0 b.0.1 all b.1 in
    let b2 = bind_some (data_at b.0.1) _ _ b.2 in
    let v = value.found b.0.1 b2.0.0 b2.0.1 (bytes_rest bytes n.0 b.0.1 n.2 all) b2.1 in
    let q : Pair = record { name = b.0.0; value = b2.0.0 } in
    let both = some_is (q, b2.0.1) (p, rest) b2.2 in
    let spelled : SpellsPair (n.0 ++ v.0) q = record { name = n.0; value = v.0; name_is = n.1; value_is = v.1; is = refl } in (
      n.0 ++ v.0,
      subst (λ (x : Pair). SpellsPair (n.0 ++ v.0) x) (ap (λ x. x.0) both) spelled,
      n.2 ∙ ap (λ (l : List ℕ). n.0 ++ l) (v.2 ∙ ap (λ x. v.0 ++ x.1) both) ∙ sym (append_assoc n.0 v.0 rest),
    )

pair_again : (front rest : List ℕ) (p : Pair) → SpellsPair front p → pair_at (front ++ rest) ≡ Some (p, rest)
unfolding pair_at
pair_again front rest p s =
    let start : front ++ rest ≡ s.name ++ (s.value ++ rest) = ap (λ (l : List ℕ). l ++ rest) s.is ∙ append_assoc s.name s.value rest in
    let first : counted_at (front ++ rest) ≡ Some (p.name, s.value ++ rest) = ap counted_at start ∙ counted.again s.name (s.value ++ rest) p.name s.name_is in
    rw (first, value.again s.value rest p.value s.value_is) refl

pub pair : Meets pair_at SpellsPair
pair = record { found = pair_found; again = pair_again }

pairs_found : (count : ℕ) (bytes : List ℕ) (ps : List Pair) (rest : List ℕ) → IsBytes bytes → pairs_at count bytes ≡ Some (ps, rest) → (front : List ℕ) × SpellsPairs count front ps × (bytes ≡ front ++ rest)
unfolding pairs_at
pairs_found count bytes ps rest all e =
    let f = several_found pair_at SpellsPair pair count bytes ps rest all e in
    (f.0, record { each = f.1; number = f.2 }, f.3)

pairs_again : (count : ℕ) (front rest : List ℕ) (ps : List Pair) → SpellsPairs count front ps → pairs_at count (front ++ rest) ≡ Some (ps, rest)
unfolding pairs_at
pairs_again count front rest ps s =
    ap (λ (n : ℕ). several_at pair_at n (front ++ rest)) (sym s.number) ∙ several_again pair_at SpellsPair pair front rest ps s.each

pub pairs : (count : ℕ) → Meets (pairs_at count) (SpellsPairs count)
pairs count = record { found = pairs_found count; again = pairs_again count }
