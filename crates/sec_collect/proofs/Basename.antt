-- The first byte of a path goes as long as a slash is left.
use Rattle.std.proofs.Common.{◌≡◌, ◌∙◌, ℕ, Bool, true, false, cond, List, [], ◌∷◌, refl, sym}
use Rattle.std.specs.List.{list_any}
use Rattle.sec_collect.specs.Request.{basename, is_slash}

twice : (c : Bool) (x y name : List ℕ) → cond c (cond c x y) name ≡ cond c x name
twice true x y name = refl
twice false x y name = refl

pub whole_or : (path : List ℕ) → cond (list_any is_slash path) (basename path) path ≡ basename path
whole_or [] = refl
whole_or (b ∷ path) = twice (list_any is_slash (b ∷ path)) (basename path) (b ∷ path) (b ∷ path)

pub at_slash : (b : ℕ) (behind name whole : List ℕ) → is_slash b ≡ true → cond (list_any is_slash (b ∷ behind)) (basename (b ∷ behind)) name ≡ whole
    → cond (list_any is_slash behind) (basename behind) behind ≡ whole
at_slash b behind name whole slash before = whole_or behind ∙ (rw slash at before)

pub at_other : (b : ℕ) (behind name whole : List ℕ) → is_slash b ≡ false → cond (list_any is_slash (b ∷ behind)) (basename (b ∷ behind)) name ≡ whole
    → cond (list_any is_slash behind) (basename behind) name ≡ whole
at_other b behind name whole other before = sym (twice (list_any is_slash behind) (basename behind) (b ∷ behind) name) ∙ (rw other at before)
