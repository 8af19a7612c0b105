-- A list of targets and a list of actions have one reading each.
use Rattle.std.proofs.Common.{◌≡◌, ℕ, zero, suc, ◌<◌, ◌≤◌, List, [], ◌∷◌, length, Option, Some, None, Result, Ok, Err, refl, sym, ap, subst, ◌∙◌, arith}
use Rattle.sec_ast.specs.declared.target.Target.{Target}
use Rattle.sec_text.specs.Readers.{Reader, ReadsAll, Takes}
use Rattle.sec_text.proofs.Readers.{one_reading, repeat-reads}
use Rattle.sec_parts.specs.declared.acts.Acts.{Acts}
use Rattle.sec_parts.specs.declared.faults.Bad.{Bad}
use Rattle.sec_parts.specs.declared.kinds.Stand.{Stand}
use Rattle.sec_parts.specs.declared.pieces.Piece.{Piece}
use Rattle.sec_parts.specs.Acts.{ActsFrom, AreActs, Progress, actions_in, next_action, no_acts, pieces_in, with_next, with_piece}
use Rattle.sec_parts.specs.Pieces.{piece_at}
use Rattle.sec_parts.specs.Results.{◌>>=◌}
use Rattle.sec_parts.specs.Targets.{next_target, one_target, target_at, targets_of}
use Rattle.sec_parts.proofs.Given.{Given, given_at}
use Rattle.sec_parts.proofs.PieceBounds.{Left, left_size, piece_left, size, target_left}

-- ---- targets

one_is : (r : Result (Target × Option (List ℕ)) Bad) (x : Target × Option (List ℕ)) → one_target r ≡ Ok (Some x) → r ≡ Ok x
one_is (Ok y) x e = cc
one_is (Err f) x e = cc

target_shrinks : (whole : Option (List ℕ)) (x : Target × Option (List ℕ)) → next_target whole ≡ Ok (Some x) → size x.1 < size whole
target_shrinks None x e = cc
target_shrinks (Some text) x e =
    let left : Left (length text) x.1 = given_at (λ (y : Target × Option (List ℕ)). Left (length text) y.1) (target_at text) x (target_left text) (one_is (target_at text) x e) in
    let less = left_size (length text) x.1 left in
    omega (arith, less)

pub targets_are : (text : List ℕ) → ReadsAll next_target (Some text) (targets_of text)
unfolding targets_of
targets_are text = repeat-reads next_target size target_shrinks (suc (suc (length text))) (Some text) (omega arith)

pub targets_only : (text : List ℕ) (answer : Result (List Target) Bad) → ReadsAll next_target (Some text) answer → answer ≡ targets_of text
targets_only text answer is = one_reading next_target (Some text) answer (targets_of text) is (targets_are text)

-- ---- actions

-- one piece before those that follow
before : (stand : Stand) (start : Progress) (piece : Piece) (next : Progress) (answer : Result Acts Bad) → next_action stand start ≡ Ok (Some (piece, next)) → ActsFrom stand next answer → ActsFrom stand start answer
before stand start piece next (Ok acts) step h = (piece ∷ h.0, (next, step, h.1))
before stand start piece next (Err fault) step h = (piece ∷ h.0, h.1, (next, step, h.2), h.3)

module _ (stand : Stand) (k : ℕ) (more : (o : Option (List ℕ)) (acts : Acts) → size o ≤ k → ActsFrom stand (o, acts) (pieces_in stand k o acts)) (text : List ℕ) (acts : Acts) (h : size (Some text) ≤ suc k) where
  acted : (piece : Piece) (rest : Option (List ℕ)) (r : Result Acts Bad) → Left (length text) rest → next_action stand (Some text, acts) ≡ with_next piece rest r
      → ActsFrom stand (Some text, acts) (r >>= λ next. pieces_in stand k rest next)
  acted piece rest (Ok next) left step =
      let less = left_size (length text) rest left in
      before stand (Some text, acts) piece (rest, next) (pieces_in stand k rest next) step (more rest next (omega (arith, less, h)))
  acted piece rest (Err fault) left step = ([], (Some text, acts), refl, step)

  took : (r : Result (Piece × Option (List ℕ)) Bad) → Given (λ x. Left (length text) x.1) r → piece_at text ≡ r
      → ActsFrom stand (Some text, acts) (r >>= λ piece. with_piece stand piece.0 acts >>= λ next. pieces_in stand k piece.1 next)
  took (Ok x) left is = acted x.0 x.1 (with_piece stand x.0 acts) left (ap (λ (r : Result (Piece × Option (List ℕ)) Bad). r >>= λ piece. with_next piece.0 piece.1 (with_piece stand piece.0 acts)) is)
  took (Err fault) left is = ([], (Some text, acts), refl, ap (λ (r : Result (Piece × Option (List ℕ)) Bad). r >>= λ piece. with_next piece.0 piece.1 (with_piece stand piece.0 acts)) is)

acts_from : (stand : Stand) (k : ℕ) (o : Option (List ℕ)) (acts : Acts) → size o ≤ k → ActsFrom stand (o, acts) (pieces_in stand k o acts)
acts_from stand zero None acts h = ([], refl)
acts_from stand (suc k) None acts h = ([], refl)
acts_from stand zero (Some text) acts h = absurd (omega (arith, h))
acts_from stand (suc k) (Some text) acts h = took stand k (acts_from stand k) text acts h (piece_at text) (piece_left text) refl

pub actions_are : (stand : Stand) (text : List ℕ) → AreActs stand text (actions_in stand text)
unfolding actions_in
actions_are stand text = acts_from stand (suc (length text)) (Some text) no_acts (omega arith)

-- the same values leave the same
abbrev step_of : {S A E : Type 0} → A → S → Result (Option (A × S)) E
step_of value rest = Ok (Some (value, rest))

rest_of : {S A E : Type 0} (a : A) (s t : S) → step_of {E = E} a s ≡ step_of a t → s ≡ t
rest_of {S} {A} a s t e = let pair : (a, s) ≡ (a, t) = cc in ap (λ (x : A × S). x.1) pair

same_rest : {S A E : Type 0} (reader : Reader S A E) (whole other : S) (values : List A) (one two : S) → whole ≡ other → Takes reader whole values one → Takes reader other values two → one ≡ two
same_rest reader whole other [] one two same p q = sym p ∙ same ∙ q
same_rest reader whole other (value ∷ values) one two same p q =
    same_rest reader p.0 q.0 values one two (rest_of value p.0 q.0 (sym p.1 ∙ ap reader same ∙ q.1)) p.2 q.2

same_acts : (stand : Stand) (start : Progress) (xs ys : List Piece) (a b : Acts) → xs ≡ ys → Takes (next_action stand) start xs (None, a) → Takes (next_action stand) start ys (None, b) → a ≡ b
same_acts stand start xs ys a b same p q =
    let rest = same_rest (next_action stand) start start ys (None, a) (None, b) refl (subst (λ (l : List Piece). Takes (next_action stand) start l (None, a)) same p) q in
    ap (λ (x : Progress). x.1) rest

one_way : (stand : Stand) (start : Progress) (first second : Result Acts Bad) → ActsFrom stand start first → ActsFrom stand start second → first ≡ second
one_way stand start (Ok a) (Ok b) p q =
    let same = one_reading (next_action stand) start (Ok p.0) (Ok q.0) ((None, a), p.1, refl) ((None, b), q.1, refl) in
    let pieces : p.0 ≡ q.0 = cc in
    ap (λ (x : Acts). Ok x) (same_acts stand start p.0 q.0 a b pieces p.1 q.1)
one_way stand start (Ok a) (Err f) p q =
    let no = one_reading (next_action stand) start (Ok p.0) (Err f) ((None, a), p.1, refl) q in absurd cc
one_way stand start (Err e) (Ok b) p q =
    let no = one_reading (next_action stand) start (Err e) (Ok q.0) p ((None, b), q.1, refl) in absurd cc
one_way stand start (Err e) (Err f) p q =
    let same = one_reading (next_action stand) start (Err e) (Err f) p q in
    let fault : e ≡ f = cc in ap (λ (x : Bad). Err x) fault

pub actions_only : (stand : Stand) (text : List ℕ) (answer : Result Acts Bad) → AreActs stand text answer → answer ≡ actions_in stand text
actions_only stand text answer is = one_way stand (Some text, no_acts) answer (actions_in stand text) is (actions_are stand text)
