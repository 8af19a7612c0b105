-- A phase that passes items over goes on after them.
use Rattle.std.proofs.Common.{◌≡◌, ℕ, zero, suc, Bool, true, false, cond, List, [], ◌∷◌, refl, ap, nat_eq}
use Rattle.std.specs.Str.{bytes_eq}
use Rattle.sec_ast.specs.declared.listing.Item.{Item}
use Rattle.sec_ast.specs.declared.listing.Item.TheVariants as items
use Rattle.sec_eval.specs.Jumps.{after_marker, after_rules}
use Rattle.sec_meaning.specs.Phase.{Run, look, walk}
use Rattle.sec_meaning.specs.declared.state.Passing.TheVariants.{Looking, Skipping, Until}
use Rattle.sec_meaning.specs.declared.state.PlainState.{PlainState}

both : (b : Bool) (x y z : Run) → x ≡ z → y ≡ z → cond b x y ≡ z
both true x y z p q = p
both false x y z p q = q

marked : (b : Bool) (p : ℕ) (label : List ℕ) (left : List Item) (s : PlainState) → walk p left (Until label) s ≡ walk p (after_marker label left) Looking s
    → walk p left (cond b Looking (Until label)) s ≡ walk p (cond b left (after_marker label left)) Looking s
marked true p label left s later = refl
marked false p label left s later = later

pub until_marker : (p : ℕ) (label : List ℕ) (left : List Item) (s : PlainState) → walk p left (Until label) s ≡ walk p (after_marker label left) Looking s
until_marker p label [] s = refl
until_marker p label (items.Marker marker ∷ left) s = marked (bytes_eq marker label) p label left s (until_marker p label left s)
until_marker p label (items.Rule r ∷ left) s = both (nat_eq r.phase p) _ _ _ (until_marker p label left s) (until_marker p label left s)

none_skipped : (p : ℕ) (left : List Item) (s : PlainState) → walk p left (Skipping 0) s ≡ walk p left Looking s
none_skipped p [] s = refl
none_skipped p (items.Marker marker ∷ left) s = none_skipped p left s
none_skipped p (items.Rule r ∷ left) s = ap (λ (run : Run). cond (nat_eq r.phase p) (look r s (λ passing t. walk p left passing t)) run) (none_skipped p left s)

passed : (b : Bool) (p n : ℕ) (left : List Item) (s : PlainState) → walk p left (Skipping n) s ≡ walk p (after_rules p n left) Looking s
    → walk p left (Skipping (suc n)) s ≡ walk p (after_rules p (suc n) left) Looking s
    → cond b (walk p left (Skipping n) s) (walk p left (Skipping (suc n)) s) ≡ walk p (cond b (after_rules p n left) (after_rules p (suc n) left)) Looking s
passed true p n left s here later = here
passed false p n left s here later = later

pub skipping_rules : (p n : ℕ) (left : List Item) (s : PlainState) → walk p left (Skipping n) s ≡ walk p (after_rules p n left) Looking s
skipping_rules p n [] s = refl
skipping_rules p zero (item ∷ left) s = none_skipped p (item ∷ left) s
skipping_rules p (suc n) (items.Marker marker ∷ left) s = skipping_rules p (suc n) left s
skipping_rules p (suc n) (items.Rule r ∷ left) s = passed (nat_eq r.phase p) p n left s (skipping_rules p n left s) (skipping_rules p (suc n) left s)
