-- A phase looks at no more rules than the items have of it.
use Rattle.std.proofs.Common.{ℕ, zero, suc, ◌+◌, ◌≤◌, Bool, true, false, cond, length, List, [], ◌∷◌, arith, nat_eq}
use Rattle.sec_ast.specs.declared.listing.Item.{Item}
use Rattle.sec_ast.specs.declared.listing.Item.TheVariants as items
use Rattle.sec_ast.specs.declared.listing.Listing.{Listing}
use Rattle.sec_ast.specs.declared.rule.Rule.{Rule}
use Rattle.sec_eval.specs.Counting.{rules_in}
use Rattle.sec_meaning.specs.Effect.{effect}
use Rattle.sec_meaning.specs.Phase.{Run, at_marker, at_rule, follow, is_off, is_rejected, is_removed, look, walk, with_body}
use Rattle.sec_meaning.specs.declared.state.RuleFlow.{RuleFlow}
use Rattle.sec_meaning.specs.declared.state.RuleFlow.TheVariants.{Next, Skip, SkipTo, EndPhase, EndTo3, EndTo5, Interrupt}
use Rattle.sec_meaning.specs.declared.state.Passing.{Passing}
use Rattle.sec_meaning.specs.declared.state.Passing.TheVariants.{Looking, Skipping, Until}
use Rattle.sec_meaning.specs.declared.state.PlainState.{PlainState}

either : (b : Bool) (x y : Run) (n : ℕ) → x.looked ≤ n → y.looked ≤ n → (cond b x y).looked ≤ n
either true x y n p q = p
either false x y n p q = q

counted : (b : Bool) (x y : Run) (item : Item) (left : List Item) → x.looked ≤ 1 + length left → y.looked ≤ length left → (cond b x y).looked ≤ length (cond b (item ∷ left) left)
counted true x y item left p q = omega (arith, p)
counted false x y item left p q = q

follow_most : (f : RuleFlow) (s : PlainState) (rest : Passing → PlainState → Run) (n : ℕ) → ((w : Passing) (t : PlainState) → (rest w t).looked ≤ n) → (follow s f rest).looked ≤ n
follow_most Next s rest n h = h Looking s
follow_most (Skip k) s rest n h = h (Skipping k) s
follow_most (SkipTo l) s rest n h = h (Until l) s
follow_most EndPhase s rest n h = omega arith
follow_most EndTo3 s rest n h = omega arith
follow_most EndTo5 s rest n h = omega arith
follow_most (Interrupt v) s rest n h = omega arith

look_most : (r : Rule) (s : PlainState) (rest : Passing → PlainState → Run) (n : ℕ) → ((w : Passing) (t : PlainState) → (rest w t).looked ≤ n) → (look r s rest).looked ≤ 1 + n
look_most r s rest n h =
    let here = h Looking s in
    let on = follow_most (effect r s).1 (effect r s).0 rest n h in
    either (is_off s.engine) _ _ (1 + n) (omega arith) (either (is_removed r s) _ _ (1 + n) (omega (arith, here)) (omega (arith, on)))

rule_most : (w : Passing) (r : Rule) (s : PlainState) (rest : Passing → PlainState → Run) (n : ℕ) → ((w : Passing) (t : PlainState) → (rest w t).looked ≤ n) → (at_rule w r s rest).looked ≤ 1 + n
rule_most Looking r s rest n h = look_most r s rest n h
rule_most (Skipping zero) r s rest n h = look_most r s rest n h
rule_most (Skipping (suc k)) r s rest n h = let here = h (Skipping k) s in omega (arith, here)
rule_most (Until l) r s rest n h = let here = h (Until l) s in omega (arith, here)

pub walk_most : (p : ℕ) (items : List Item) (w : Passing) (s : PlainState) → (walk p items w s).looked ≤ rules_in p items
walk_most p [] w s = omega arith
walk_most p (items.Marker label ∷ left) w s = walk_most p left (at_marker label w) s
walk_most p (items.Rule r ∷ left) w s =
    counted (nat_eq r.phase p) _ _ _ _ (rule_most w r s (λ v t. walk p left v t) (rules_in p left) (λ v t. walk_most p left v t)) (walk_most p left w s)

pub body_most : (l : Listing) (s : PlainState) → (with_body l s).looked ≤ rules_in 2 l.items
body_most l s = either (is_rejected l s) _ _ _ (omega arith) (walk_most 2 l.items Looking s)
