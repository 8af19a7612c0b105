use Rattle.std.proofs.Common.{◌≡◌, ◌<◌, length, None, sym, subst, arith}
use Rattle.due_index.specs.Due.{held_at}
use Rattle.due_index.proofs.Counts.{count_below}
use Rattle.due_index.proofs.index.DueIndex.add.Goals as goal

pub overflow_add-self : goal.overflow_add-self
overflow_add-self c =
    let held = c.self.inside.held.items in let place = c.args.place in
    let within = subst (λ h. place < length h) (sym c.self.view_is) c.requires.within in
    let free = subst (λ h. held_at h place ≡ None) (sym c.self.view_is) c.requires.free in
    let few = count_below held place within (c.args.deadline, c.args.ticket) free in
    let small = c.self.invariant.0.small in let len = c.self.invariant.2 in
    omega arith
