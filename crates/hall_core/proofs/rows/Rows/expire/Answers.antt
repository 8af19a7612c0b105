use Rattle.std.proofs.Common.{◌≡◌, ◌∙◌, Some, refl, sym, ap, subst}
use Rattle.std.proofs.lemmas.Option.{slice_get_within}
use Rattle.hall_core.specs.State.{is_next}
use Rattle.hall_core.specs.Found.{IsFirst}
use Rattle.hall_core.proofs.Places.{all_stay}
use Rattle.hall_core.proofs.Stages.{next_parked}
use Rattle.hall_core.proofs.rows.Rows.expire.Goals as goal

pub returns-in_default-clause-rows : goal.returns-in_default-clause-rows
returns-in_default-clause-rows g c = sym (all_stay (is_next c.args.now c.args.self.now.rows) c.args.self.now.rows (subst (λ o. IsFirst (is_next c.args.now c.args.self.now.rows) c.args.self.now.rows o) c.in_default.is c.place_of_next.ensures.place))

pub take-key-requires : goal.take-key-requires
take-key-requires g c =
    let h = subst (λ o. IsFirst (is_next c.args.now c.args.self.now.rows) c.args.self.now.rows o) c.in-Some.is c.place_of_next.ensures.place in
    slice_get_within c.args.self.now.rows c.in-Some.at h.0 h.1.here

pub unreachable-requires : goal.unreachable-requires
unreachable-requires g c =
    let h = subst (λ o. IsFirst (is_next c.args.now c.args.self.now.rows) c.args.self.now.rows o) c.in-Some.is c.place_of_next.ensures.place in
    let is : h.0 ≡ c.take-key.result = (let e : Some h.0 ≡ Some c.take-key.result = sym h.1.here ∙ c.take-key.ensures.row in cc) in
    next_parked c.args.now c.args.self.now.rows c.take-key.result (sym (ap (is_next c.args.now c.args.self.now.rows) is) ∙ h.1.passes) c.in-Running.is

pub returns-clause-reply : goal.returns-clause-reply
returns-clause-reply g c =
    let h = subst (λ o. IsFirst (is_next c.args.now c.args.self.now.rows) c.args.self.now.rows o) c.in-Some.is c.place_of_next.ensures.place in
    let is : h.0 ≡ c.take-key.result = (let e : Some h.0 ≡ Some c.take-key.result = sym h.1.here ∙ c.take-key.ensures.row in cc) in
    (c.take-key.result, h.1.found ∙ ap Some is, refl, record { number = refl; deadline = c.in-Parked.deadline; stage = c.in-Parked.is })

pub returns-clause-rows : goal.returns-clause-rows
returns-clause-rows g c =
    let h = subst (λ o. IsFirst (is_next c.args.now c.args.self.now.rows) c.args.self.now.rows o) c.in-Some.is c.place_of_next.ensures.place in
    c.take-key.ensures.rows ∙ sym h.1.left
