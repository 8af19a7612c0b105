-- The loop over the pieces of an action list.
use Rattle.std.proofs.Common.{◌≡◌, ℕ, zero, suc, ◌+◌, ◌≤◌, List, length, Option, Some, None, Result, Ok, refl, sym, ap, ◌∙◌, arith}
use Rattle.std.proofs.Common.{◌<◌}
use Rattle.std.specs.Prelude.{IfSome}
use Rattle.sec_parts.specs.declared.faults.Bad.{Bad}
use Rattle.sec_parts.specs.declared.faults.Refusal.{Refusal}
use Rattle.sec_parts.specs.declared.faults.Refusal.TheVariants as refusals
use Rattle.sec_parts.specs.declared.pieces.Piece.{Piece}
use Rattle.sec_parts.specs.declared.kinds.Stand.{Stand}
use Rattle.sec_parts.specs.declared.acts.Acts.{Acts}
use Rattle.sec_parts.specs.Results.{◌>>=◌, Refuses}
use Rattle.sec_parts.specs.Pieces.{piece_at}
use Rattle.sec_parts.specs.Acts.{with_piece, pieces_in}

-- how much is left to do
abbrev pub left : Option (List ℕ) → ℕ
left None = 0
left (Some text) = 1 + length text

-- what is left gives the whole answer
pub record Goes (stand : Stand) (rest : Option (List ℕ)) (acts : Acts) (total : Result Acts Bad) : Type 0 where
  pub most : ℕ
  pub enough : left rest ≤ most
  pub same : pieces_in stand most rest acts ≡ total

pub refuses-bind : {A B : Type 0} (e : Refusal) (r : Result A Bad) (f : A → Result B Bad) (total : Result B Bad) → Refuses e r → (r >>= f) ≡ total → Refuses e total
refuses-bind refusals.NoMemory r f total h same = tt
refuses-bind (refusals.Bad bad) r f total h same = sym same ∙ ap (λ x. x >>= f) h

one_turn : (stand : Stand) (most : ℕ) (here : List ℕ) (acts : Acts) (total : Result Acts Bad) → 1 + length here ≤ most → pieces_in stand most (Some here) acts ≡ total
    → (n : ℕ) × (most ≡ suc n) × ((piece_at here >>= λ piece. with_piece stand piece.0 acts >>= λ next. pieces_in stand n piece.1 next) ≡ total)
one_turn stand zero here acts total enough same = absurd (omega arith)
one_turn stand (suc n) here acts total enough same = (n, refl, same)

pub goes_on : (stand : Stand) (here : List ℕ) (acts next : Acts) (piece : Piece) (after : Option (List ℕ)) (total : Result Acts Bad) → Goes stand (Some here) acts total
    → piece_at here ≡ Ok (piece, after) → left after ≤ length here → with_piece stand piece acts ≡ Ok next → Goes stand after next total
goes_on stand here acts next piece after total g read shorter act =
    let t = one_turn stand g.most here acts total g.enough g.same in
    record { most = t.0; enough = omega (arith, g.enough, t.1); same = rw (read, act) at t.2 }

pub stops_reading : (e : Refusal) (stand : Stand) (here : List ℕ) (acts : Acts) (total : Result Acts Bad) → Goes stand (Some here) acts total → Refuses e (piece_at here) → Refuses e total
stops_reading e stand here acts total g h =
    let t = one_turn stand g.most here acts total g.enough g.same in
    refuses-bind e (piece_at here) (λ piece. with_piece stand piece.0 acts >>= λ next. pieces_in stand t.0 piece.1 next) total h t.2

pub stops_acting : (e : Refusal) (stand : Stand) (here : List ℕ) (acts : Acts) (piece : Piece) (after : Option (List ℕ)) (total : Result Acts Bad) → Goes stand (Some here) acts total
    → piece_at here ≡ Ok (piece, after) → Refuses e (with_piece stand piece acts) → Refuses e total
stops_acting e stand here acts piece after total g read h =
    let t = one_turn stand g.most here acts total g.enough g.same in
    refuses-bind e (with_piece stand piece acts) (λ next. pieces_in stand t.0 after next) total h (rw read at t.2)

pub ends : (stand : Stand) (acts : Acts) (total : Result Acts Bad) → Goes stand None acts total → total ≡ Ok acts
ends stand acts total g = over g.most g.same where
  over : (most : ℕ) → pieces_in stand most None acts ≡ total → total ≡ Ok acts
  over zero same = sym same
  over (suc n) same = sym same

pub left_within : (here : List ℕ) (after : Option (List ℕ)) → IfSome after (λ a. length a < length here) → left after ≤ length here
left_within here None h = omega arith
left_within here (Some a) h = omega arith
