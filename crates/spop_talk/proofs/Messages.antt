-- Messages, one and several.
use Rattle.std.proofs.Common.{◌≡◌, ℕ, suc, ◌<◌, List, [], ◌∷◌, ◌++◌, length, Some, Result, Ok, Err, IfOk, IsErrOf, OnOk, Bool, false, eqb, refl, sym, ◌∙◌, ap, subst, arith, append_assoc, length-append}
use Rattle.std.proofs.lemmas.Bool.{false≢true}
use Rattle.spop_varint.proofs.Laws.{IsBytes}
use Rattle.spop_data.specs.Lists.{SpellsEach}
use Rattle.spop_data.specs.Answer.{Gives}
use Rattle.spop_data.specs.Data.{SpellsPair}
use Rattle.spop_data.specs.Reading.{counted_at, pairs_at}
use Rattle.spop_data.specs.declared.value.Pair.{Pair}
use Rattle.spop_data.specs.declared.value.DataFault as faults
use Rattle.spop_data.specs.declared.value.DataFault.TheVariants as fault
use Rattle.spop_data.proofs.Steps.{Meets, bind_some, some_is, bytes_rest}
use Rattle.spop_data.proofs.Numbers.{counted}
use Rattle.spop_data.proofs.Laws.{pairs}
use Rattle.spop_data.proofs.Items.{all_found, all_again}
use Rattle.spop_talk.specs.Message.{SpellsMessage, IsNoList}
use Rattle.spop_talk.specs.Reading.{args_at, message_at, messages_of}
use Rattle.spop_talk.specs.declared.message.Message.{Message}

args_found : (bytes : List ℕ) (ps : List Pair) (rest : List ℕ) → IsBytes bytes → args_at bytes ≡ Some (ps, rest)
    → (args : List ℕ) × SpellsEach SpellsPair args ps × (length ps < 256) × (bytes ≡ (length ps ∷ args) ++ rest)
args_found [] ps rest all e = absurd cc
args_found (count ∷ bytes) ps rest all e =
    let f = (pairs count).found bytes ps rest (λ i. all (suc i)) e in
    (f.0, f.1.each, omega (arith, f.1.number, all 0), (λ i. sym f.1.number i ∷ f.2 i))

message_found : (bytes : List ℕ) (m : Message) (rest : List ℕ) → IsBytes bytes → message_at bytes ≡ Some (m, rest) → (front : List ℕ) × SpellsMessage front m × (bytes ≡ front ++ rest)
unfolding message_at
message_found bytes m rest all e =
    let b = bind_some (counted_at bytes) _ _ e in
    let n = counted.found bytes b.0.0 b.0.1 all b.1 in
    let b2 = bind_some (args_at b.0.1) _ _ b.2 in
    let a = args_found b.0.1 b2.0.0 b2.0.1 (bytes_rest bytes n.0 b.0.1 n.2 all) b2.1 in
    let q : Message = record { name = b.0.0; args = b2.0.0 } in
    let both = some_is (q, b2.0.1) (m, rest) b2.2 in
    let front : List ℕ = n.0 ++ (length b2.0.0 ∷ a.0) in
    let spelled : SpellsMessage front q = record { name = n.0; args = a.0; name_is = n.1; few = a.2; args_is = a.1; is = refl } in (
      front,
      subst (λ (x : Message). SpellsMessage front x) (ap (λ x. x.0) both) spelled,
      n.2 ∙ ap (λ (l : List ℕ). n.0 ++ l) (a.3 ∙ ap (λ x. (length b2.0.0 ∷ a.0) ++ x.1) both) ∙ sym (append_assoc n.0 (length b2.0.0 ∷ a.0) rest),
    )

message_again : (front rest : List ℕ) (m : Message) → SpellsMessage front m → message_at (front ++ rest) ≡ Some (m, rest)
unfolding message_at
message_again front rest m s =
    let start : front ++ rest ≡ s.name ++ (length m.args ∷ s.args ++ rest) = ap (λ (l : List ℕ). l ++ rest) s.is ∙ append_assoc s.name (length m.args ∷ s.args) rest in
    let first : counted_at (front ++ rest) ≡ Some (m.name, length m.args ∷ s.args ++ rest) = ap counted_at start ∙ counted.again s.name (length m.args ∷ s.args ++ rest) m.name s.name_is in
    let args : pairs_at (length m.args) (s.args ++ rest) ≡ Some (m.args, rest) = (pairs (length m.args)).again s.args rest m.args (record { each = s.args_is; number = refl }) in
    rw (first, args) refl

pub message : Meets message_at SpellsMessage
message = record { found = message_found; again = message_again }

pub not_empty : (bytes : List ℕ) (empty : Bool) → empty ≡ false → empty ≡ eqb (length bytes) 0 → 0 < length bytes
not_empty [] empty no_ is = absurd (false≢true (sym no_ ∙ is))
not_empty (b ∷ bytes) empty no_ is = omega arith

-- a message has a byte at least
pub some : (bytes : List ℕ) (m : Message) → SpellsMessage bytes m → 0 < length bytes
some bytes m s = omega (arith, ap length s.is, length-append s.name (length m.args ∷ s.args))

pub messages_again : (payload : List ℕ) (ms : List Message) → SpellsEach SpellsMessage payload ms → messages_of payload ≡ Some ms
unfolding messages_of
messages_again payload ms s = all_again message_at SpellsMessage message some payload ms s

module _ (payload : List ℕ) where
  pub read : IsBytes payload → (r : Result (List Message) faults.DataFault) → Gives (λ (ms : List Message). ms) r (messages_of payload) → IfOk r (SpellsEach SpellsMessage payload)
  unfolding messages_of
  read all (Ok ms) g = all_found message_at SpellsMessage message some payload ms all g
  read all (Err e) g = tt

  pub invalid : (r : Result (List Message) faults.DataFault) → Gives (λ (ms : List Message). ms) r (messages_of payload) → IsErrOf r fault.Invalid → IsNoList payload
  invalid (Ok ms) g is = absurd cc
  invalid (Err fault.Invalid) g is = λ ms s. (let read_ = messages_again payload ms s in cc (read_, g))
  invalid (Err fault.NoMemory) g is = absurd cc

  pub never : IsBytes payload → (r : Result (List Message) faults.DataFault) → Gives (λ (ms : List Message). ms) r (messages_of payload) → IsNoList payload → OnOk r ⊥
  never all (Ok ms) g no_list = no_list ms (read all (Ok ms) g)
  never all (Err e) g no_list = tt
