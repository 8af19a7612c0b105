use Rattle.std.proofs.Common.{◌≡◌, ◌∙◌, Some, refl, sym, ap, subst}
use Rattle.std.proofs.lemmas.Option.{slice_get_within}
use Rattle.hall_core.specs.State.{waits}
use Rattle.hall_core.specs.Found.{IsFirst}
use Rattle.hall_core.proofs.Places.{all_stay}
use Rattle.hall_core.proofs.Stages.{waits_parked}
use Rattle.hall_core.proofs.rows.Rows.resume.Goals as goal

pub returns-in_default-clause-rows : goal.returns-in_default-clause-rows
returns-in_default-clause-rows g c = sym (all_stay (waits c.args.key.now) c.args.self.now.rows (subst (λ o. IsFirst (waits c.args.key.now) c.args.self.now.rows o) c.in_default.is c.place_waiting.ensures))

pub take-number-requires : goal.take-number-requires
take-number-requires g c =
    let h = subst (λ o. IsFirst (waits c.args.key.now) c.args.self.now.rows o) c.in-Some.is c.place_waiting.ensures in
    slice_get_within c.args.self.now.rows c.in-Some.at h.0 h.1.here

pub unreachable-requires : goal.unreachable-requires
unreachable-requires g c =
    let h = subst (λ o. IsFirst (waits c.args.key.now) c.args.self.now.rows o) c.in-Some.is c.place_waiting.ensures in
    let is : h.0 ≡ c.take-number.result = (let e : Some h.0 ≡ Some c.take-number.result = sym h.1.here ∙ c.take-number.ensures.row in cc) in
    waits_parked c.args.key.now c.take-number.result (sym (ap (waits c.args.key.now) is) ∙ h.1.passes) c.in-Running.is

pub returns-clause-reply : goal.returns-clause-reply
returns-clause-reply g c =
    let h = subst (λ o. IsFirst (waits c.args.key.now) c.args.self.now.rows o) c.in-Some.is c.place_waiting.ensures in
    let is : h.0 ≡ c.take-number.result = (let e : Some h.0 ≡ Some c.take-number.result = sym h.1.here ∙ c.take-number.ensures.row in cc) in
    (c.take-number.result, h.1.found ∙ ap Some is, record { number = refl; deadline = c.in-Parked.deadline; stage = c.in-Parked.is })

pub returns-clause-rows : goal.returns-clause-rows
returns-clause-rows g c =
    let h = subst (λ o. IsFirst (waits c.args.key.now) c.args.self.now.rows o) c.in-Some.is c.place_waiting.ensures in
    c.take-number.ensures.rows ∙ sym h.1.left
