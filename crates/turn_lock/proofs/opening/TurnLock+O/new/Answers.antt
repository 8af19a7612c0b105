use Rattle.std.proofs.Common.{[], ◌∷◌, ◌++◌, None, Some, sym, ap, ◌∙◌, subst}
use Rattle.atomic_table.specs.Table.{opening}
use Rattle.turn_lock.specs.declared.slot.Held.{Held}
use Rattle.turn_lock.specs.Rule.{InTurns}
use Rattle.turn_lock.specs.View.{first_view}
use Rattle.turn_lock.proofs.FirstLast.{open_keeps}
use Rattle.turn_lock.proofs.opening.TurnLock+O.new.Goals as goal

pub new-requires : goal.new-requires
new-requires g c =
    let held : Held g.row.O.Denot g.row.O-Call.Denot g.row.O-Reply.Denot = record { object = c.args.object; last = None } in
    let start = c.of-start.result.value in
    subst (λ l. InTurns g.O.Object.may g.O.Object.allows g.O.Object.after g.O.Object.kept start (opening (0 ∷ 0 ∷ 0 ∷ 0 ∷ 0 ∷ []) l (first_view start)))
    (sym (c.push_reserved.ensures.items ∙ ap (λ l. l ++ Some held ∷ []) c.in_ok-slots.ensures.items))
    (open_keeps g.O.Object.may g.O.Object.allows g.O.Object.after g.O.Object.kept start held (sym c.of-start.ensures)
    (subst (λ s. g.O.Object.kept s ([] ∷ [])) (sym c.of-start.ensures) (g.met.O.Object.kept_first c.args.object c.requires)))
