use Rattle.std.proofs.Common.{◌∙◌, ap, subst}
use Rattle.due_index.specs.Due.{IsLeast}
use Rattle.due_index.specs.Tree.{node}
use Rattle.due_index.proofs.Nodes.{root_least}
use Rattle.due_index.proofs.index.DueIndex.least.Goals as goal

pub returns : goal.returns
returns c =
    let held = c.self.inside.held.items in let firsts = c.self.inside.firsts.items in let root = c.node.result in
    let of_held = ap (λ h. node h c.deref-2.result.now 1) c.deref.ensures.value in
    let at_root = c.node.ensures ∙ of_held ∙ ap (λ f. node held f 1) c.deref-2.ensures.value in
    subst (λ h. IsLeast h root) c.self.view_is (root_least held firsts c.self.invariant.1 root at_root)
