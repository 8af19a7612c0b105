use Rattle.std.proofs.Common.{◌++◌, List, ℕ, sym, ap, ◌∙◌, append-nil}
use Rattle.sec_transforms.proofs.Steps.{ends_plain, ends_space}
use Rattle.sec_transforms.proofs.command.Line.end.Goals as goal

pub returns-then-not-space : goal.returns-then-not-space
returns-then-not-space c =
    sym (ap (λ (l : List ℕ). c.args.self.out ++ l) (ends_plain c.args.self.space c.if-not-space.true) ∙ append-nil c.args.self.out)

pub returns : goal.returns
returns c =
    c.in_ok-push.ensures.ok ∙ sym (ap (λ (l : List ℕ). c.args.self.out ++ l) (ends_space c.args.self.space c.if-not-space.false))
