use Rattle.std.proofs.Common.{◌++◌, [], ◌∷◌, List, ℕ, sym, ap, ◌∙◌}
use Rattle.sec_transforms.proofs.Steps.{blank_step, plain_step, closing_step, apart_step, written}
use Rattle.sec_transforms.proofs.command.Line.read.Goals as goal

pub returns-then-is_blank : goal.returns-then-is_blank
returns-then-is_blank c = λ rest.
    ap (λ (l : List ℕ). c.args.self.now.out ++ l)
    (blank_step c.args.self.now.space c.args.byte rest (sym c.is_mark.ensures ∙ c.if-is_mark.false) (sym c.is_blank.ensures ∙ c.if-is_blank.true))

pub returns-then-not-self : goal.returns-then-not-self
returns-then-not-self c = λ rest.
    written c.args.self.now.out _ (c.lower.result ∷ []) _ _ c.in_ok-push.ensures.ok
    (rw (c.lower.ensures, c.if-not-self.true) (plain_step c.args.byte rest (sym c.is_mark.ensures ∙ c.if-is_mark.false) (sym c.is_blank.ensures ∙ c.if-is_blank.false)))

pub returns-then-closes : goal.returns-then-closes
returns-then-closes c = λ rest.
    written c.args.self.now.out _ (c.lower-then-closes.result ∷ []) _ _ c.in_ok-push-2.ensures.ok
    (rw (c.lower-then-closes.ensures, c.if-not-self.false) (closing_step c.args.byte rest (sym c.is_mark.ensures ∙ c.if-is_mark.false) (sym c.is_blank.ensures ∙ c.if-is_blank.false) (sym c.closes.ensures ∙ c.if-closes.true)))

pub returns : goal.returns
returns c = λ rest.
    written c.args.self.now.out _ (32 ∷ c.lower-2.result ∷ []) _ _ c.in_ok-append.ensures.ok
    (rw (c.lower-2.ensures, c.if-not-self.false) (apart_step c.args.byte rest (sym c.is_mark.ensures ∙ c.if-is_mark.false) (sym c.is_blank.ensures ∙ c.if-is_blank.false) (sym c.closes.ensures ∙ c.if-closes.false)))
