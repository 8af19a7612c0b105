-- Facts on both sides of a choice.
use Rattle.std.proofs.Common.{◌≡◌, Bool, true, false, cond, refl}

-- where both sides are equal, the choices are
pub both_sides : {A : Type 0} (b : Bool) {x x' y y' : A} → x ≡ x' → y ≡ y' → cond b x y ≡ cond b x' y'
both_sides true p q = p
both_sides false p q = q

-- a function goes over a choice
pub over_choice : {A B : Type 0} (f : A → B) (b : Bool) (x y : A) → cond b (f x) (f y) ≡ f (cond b x y)
over_choice f true x y = refl
over_choice f false x y = refl

-- what holds of both sides holds of the choice
pub either : {A : Type 0} (P : A → Type 0) (b : Bool) (x y : A) → P x → P y → P (cond b x y)
either P true x y p q = p
either P false x y p q = q
