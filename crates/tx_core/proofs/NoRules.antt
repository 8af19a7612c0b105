-- A phase of which there is no rule does nothing.
use Rattle.std.proofs.Common.{◌≡◌, ℕ, Bool, true, false, cond, List, [], ◌∷◌, length, refl, arith, nat_eq, nat_lt}
use Rattle.sec_ast.specs.declared.listing.Item.{Item}
use Rattle.sec_ast.specs.declared.listing.Item.TheVariants as items
use Rattle.sec_ast.specs.declared.listing.Listing.{Listing}
use Rattle.sec_meaning.specs.declared.state.Passing.{Passing}
use Rattle.sec_meaning.specs.declared.state.Passing.TheVariants.{Looking}
use Rattle.sec_meaning.specs.declared.state.PlainState.{PlainState}
use Rattle.sec_meaning.specs.Phase.{Run, at_marker, ended, phase, walk}
use Rattle.sec_eval.specs.Counting.{rules_in}

-- a rule of the phase is one more than none, and another one is passed over
passed : (b : Bool) (item : Item) (left : List Item) (x y z : Run) → length (cond b (item ∷ left) left) ≡ 0 → (length left ≡ 0 → y ≡ z) → cond b x y ≡ z
passed true item left x y z none h = absurd (omega arith)
passed false item left x y z none h = h none

walk_none : (p : ℕ) (items : List Item) (w : Passing) (s : PlainState) → rules_in p items ≡ 0 → walk p items w s ≡ ended s
walk_none p [] w s none = refl
walk_none p (items.Marker label ∷ left) w s none = walk_none p left (at_marker label w) s none
walk_none p (items.Rule r ∷ left) w s none = passed (nat_eq r.phase p) (items.Rule r) _ _ _ (ended s) none (λ e. walk_none p left w s e)

same : {A : Type 0} (b : Bool) (x y : A) → y ≡ x → cond b x y ≡ x
same true x y e = refl
same false x y e = e

-- of phase 5, since phase 2 opens the body even so
pub last_none : (l : Listing) (s : PlainState) → rules_in 5 l.items ≡ 0 → phase l 5 s ≡ ended s
last_none l s none = same (nat_lt 5 s.next_phase) (ended s) _ (walk_none 5 l.items Looking s none)
