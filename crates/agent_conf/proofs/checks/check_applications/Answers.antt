use Rattle.std.proofs.Common.{◌∙◌, ℕ, List, [], map, length, nat_eq, refl, sym, ap, Some}
use Rattle.agent_conf.specs.declared.conf.AppConf.{AppConf}
use Rattle.agent_conf.specs.declared.fault.ConfFault.TheVariants as faults
use Rattle.agent_conf.specs.Applications.{application_faults, doubled, names, unknown_default}
use Rattle.agent_conf.specs.Reading.{first}
use Rattle.agent_conf.proofs.Firsts.{first_before, first_none}
use Rattle.agent_conf.proofs.Refusals.{map_first, no_apps, some_apps}
use Rattle.agent_conf.proofs.checks.check_applications.Goals as goal

pub returns-then-is_empty : goal.returns-then-is_empty
unfolding application_faults
returns-then-is_empty c =
    let none = ap (λ (l : List AppConf). nat_eq (length l) 0) (sym c.as_slice-apps.ensures) ∙ sym c.is_empty.ensures ∙ c.if-is_empty.true in
    rw (no_apps c.args.conf.now.apps none) refl

pub returns-in-Some : goal.returns-in-Some
unfolding application_faults
returns-in-Some c =
    let conf = c.args.conf.now in
    let some = ap (λ (l : List AppConf). nat_eq (length l) 0) (sym c.as_slice-apps.ensures) ∙ sym c.is_empty.ensures ∙ c.if-is_empty.false in
    let found = ap (λ (l : List AppConf). first (doubled [] (names l))) (sym c.as_slice-apps.ensures) ∙ sym c.in-Some.ensures ∙ ap (λ (n : List ℕ). Some n) (sym c.in_ok-copy.ensures) in
    rw (some_apps conf.apps some) (first_before (map (λ name. faults.DoubleApp name) (doubled [] (names conf.apps))) (map (λ name. faults.UnknownDefault name) (unknown_default conf.fallback (names conf.apps))) (faults.DoubleApp c.in_ok-copy.field-0)
    (map_first (λ name. faults.DoubleApp name) (doubled [] (names conf.apps)) c.in_ok-copy.field-0 found))

pub returns-in-Some-unknown_default : goal.returns-in-Some-unknown_default
unfolding application_faults
returns-in-Some-unknown_default c =
    let conf = c.args.conf.now in
    let some = ap (λ (l : List AppConf). nat_eq (length l) 0) (sym c.as_slice-apps.ensures) ∙ sym c.is_empty.ensures ∙ c.if-is_empty.false in
    let single = first_none (doubled [] (names conf.apps)) (ap (λ (l : List AppConf). first (doubled [] (names l))) (sym c.as_slice-apps.ensures) ∙ sym c.in_default.ensures) in
    let found = sym c.in-Some-unknown_default.ensures ∙ ap (λ (n : List ℕ). Some n) (sym c.in_ok-copy-2.ensures) in
    rw (some_apps conf.apps some, single) (map_first (λ name. faults.UnknownDefault name) (unknown_default conf.fallback (names conf.apps)) c.in_ok-copy-2.field-0 found)

pub returns : goal.returns
unfolding application_faults
returns c =
    let conf = c.args.conf.now in
    let some = ap (λ (l : List AppConf). nat_eq (length l) 0) (sym c.as_slice-apps.ensures) ∙ sym c.is_empty.ensures ∙ c.if-is_empty.false in
    let single = first_none (doubled [] (names conf.apps)) (ap (λ (l : List AppConf). first (doubled [] (names l))) (sym c.as_slice-apps.ensures) ∙ sym c.in_default.ensures) in
    let known = first_none (unknown_default conf.fallback (names conf.apps)) (sym c.in_default-unknown_default.ensures) in
    rw (some_apps conf.apps some, single, known) refl
