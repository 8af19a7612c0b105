-- The word of some targets that were read is sound.
use Rattle.std.proofs.Common.{◌≡◌, ℕ, Bool, true, false, List, [], ◌∷◌, ◌++◌, map, refl, ◌∙◌, codes}
use Rattle.std.specs.List.{AllByRecursion, list_all}
use Rattle.sec_ast.specs.PrintTargets.{mark_text, select_text, target_text, targets_text}
use Rattle.sec_ast.specs.PrintTexts.{escaped}
use Rattle.sec_ast.specs.Variable.{variable_name}
use Rattle.sec_ast.specs.declared.target.Select.{Select}
use Rattle.sec_ast.specs.declared.target.Select.TheVariants as selects
use Rattle.sec_ast.specs.declared.target.Target.{Target}
use Rattle.sec_ast.specs.declared.variable.Var.{Var}
use Rattle.sec_text.specs.Written.{ends_with_backslash}
use Rattle.sec_round_trip.specs.Lines.{is_printed}
use Rattle.sec_round_trip.specs.Targets.{IsSelect}
use Rattle.sec_round_trip.proofs.FineTexts.{fine_append, fine_escaped, fine_printed}
use Rattle.sec_round_trip.proofs.ReadTexts.{last_is}
use Rattle.sec_round_trip.proofs.Sound.{IsSound, clean_nil, graphs_clean, joined_sound, sound_append, sound_behind, sound_of}
use Rattle.sec_round_trip.proofs.TargetReads.{AreRead, FineSelect, IsRead}

mark_sound : (exclude count : Bool) → IsSound (mark_text exclude count)
mark_sound true count = sound_of (codes "!") (graphs_clean (codes "!") refl)
mark_sound false true = sound_of (codes "&") (graphs_clean (codes "&") refl)
mark_sound false false = sound_of [] clean_nil

select_sound : (var : Var) (select : Select) → IsSelect var select → FineSelect true select → IsSound (select_text select)
select_sound var selects.All is fine = sound_of [] clean_nil
select_sound var (selects.Name name) is fine =
    sound_append (codes ":") name (sound_of (codes ":") (graphs_clean (codes ":") refl)) (record { fine = fine; ends = last_is name ∙ is.ends })
select_sound var (selects.Pattern pattern) is fine =
    sound_behind (codes ":/" ++ escaped 47 pattern) (codes "/") (fine_append true (codes ":/") (escaped 47 pattern) (fine_printed true (codes ":/") refl) (fine_escaped true 47 refl pattern fine)) refl
    (sound_of (codes "/") (graphs_clean (codes "/") refl))

module _ (printed : (var : Var) → list_all is_printed (variable_name var) ≡ true) (backslash : (var : Var) → ends_with_backslash (variable_name var) ≡ false) where
  target_sound : (target : Target) → IsRead true target → IsSound (target_text target)
  target_sound target is =
      let mark : List ℕ = mark_text target.exclude target.count in
      let name : List ℕ = variable_name target.var in
      sound_append (mark ++ name) (select_text target.select) (sound_append mark name (mark_sound target.exclude target.count) (record { fine = fine_printed true name (printed target.var); ends = backslash target.var }))
      (select_sound target.var target.select is.0.1 is.1)

  all_sound : (targets : List Target) → AllByRecursion (IsRead true) targets → AllByRecursion IsSound (map target_text targets)
  all_sound [] are = tt
  all_sound (target ∷ targets) are = (target_sound target are.0, all_sound targets are.1)

  pub targets_sound : (targets : List Target) → AreRead true targets → IsSound (targets_text targets)
  unfolding targets_text
  targets_sound [] are = absurd are
  targets_sound (target ∷ targets) are = joined_sound 124 (map target_text (target ∷ targets)) refl (all_sound (target ∷ targets) are)

pub no_targets : IsSound (targets_text [])
unfolding targets_text
no_targets = sound_of [] clean_nil
