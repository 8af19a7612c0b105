-- Identifiers of rules in a list of items, and how many rules there are.
use Rattle.std.proofs.Common.{◌≡◌, ℕ, false, eqb, List, [], ◌∷◌, ◌++◌, refl, sym, ◌∙◌}
use Rattle.std.specs.Prelude.{if◌then◌else◌}
use Rattle.std.proofs.lemmas.Bool.{eq-eqb, eqb-true, false_from_ne_true, false≢true, or_from, or_parts}
use Rattle.sec_ast.specs.declared.listing.Item.{Item}
use Rattle.sec_read.specs.Items.{has_id, is_rule, is_rule_with}

pub other_id : (a b : ℕ) → eqb a b ≡ false → eqb b a ≡ false
other_id a b h = false_from_ne_true (eqb b a) (λ is. false≢true (sym h ∙ eq-eqb a b (sym (eqb-true b a is))))

pub none_push : (id : ℕ) (list : List Item) (item : Item) → has_id id list ≡ false → is_rule_with id item ≡ false → has_id id (list ++ item ∷ []) ≡ false
none_push id [] item none other = or_from (is_rule_with id item) false other refl
none_push id (x ∷ list) item none other =
    let parts = or_parts (is_rule_with id x) (has_id id list) none in
    or_from (is_rule_with id x) (has_id id (list ++ item ∷ [])) parts.0 (none_push id list item parts.1 other)

abbrev pub counted : Item → ℕ
counted item = if is_rule item then 1 else 0
