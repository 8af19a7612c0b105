use Rattle.std.proofs.Common.{◌≡◌, None, Some, sym, ap, ◌∙◌, unwrap_or}
use mathlib.Core.Option.{some-injective}
use lib.ListN.{get_elem?}
use Rattle.turn_lock.proofs.FirstLast.{alone_at_home}
use Rattle.turn_lock.proofs.closing.TurnLock+O.close.Goals as goal

pub unreachable-requires : goal.unreachable-requires
unreachable-requires g c =
    let f = c.close_with-closed.ensures.values.2 in
    let z = alone_at_home g.O.Object.may g.O.Object.allows g.O.Object.after g.O.Object.kept _ f.0 f.1.0 c.args.pass.id c.args.pass.me.0 f.1.1 c.requires.lock.2 c.requires.share in
    let e : Some z.0.0 ≡ None = some-injective _ _ (sym (f.4 0 (Some z.0.0) (ap (λ h. get_elem? h 0) z.0.1)) ∙ c.take-slot.ensures.value) ∙ c.in-None.is in cc

pub returns-clause-object : goal.returns-clause-object
returns-clause-object g c =
    let f = c.close_with-closed.ensures.values.2 in
    let z = alone_at_home g.O.Object.may g.O.Object.allows g.O.Object.after g.O.Object.kept _ f.0 f.1.0 c.args.pass.id c.args.pass.me.0 f.1.1 c.requires.lock.2 c.requires.share in
    let e : Some z.0.0 ≡ Some c.in-Some.held = some-injective _ _ (sym (f.4 0 (Some z.0.0) (ap (λ h. get_elem? h 0) z.0.1)) ∙ c.take-slot.ensures.value) ∙ c.in-Some.is in
    c.into_object.ensures ∙ (ap (λ o. (unwrap_or o c.in-Some.held).object) (sym e) ∙ z.0.2)

pub returns-clause-legal : goal.returns-clause-legal
returns-clause-legal g c =
    let f = c.close_with-closed.ensures.values.2 in
    (alone_at_home g.O.Object.may g.O.Object.allows g.O.Object.after g.O.Object.kept _ f.0 f.1.0 c.args.pass.id c.args.pass.me.0 f.1.1 c.requires.lock.2 c.requires.share).1

pub returns-clause-whole : goal.returns-clause-whole
returns-clause-whole g c =
    let f = c.close_with-closed.ensures.values.2 in
    (alone_at_home g.O.Object.may g.O.Object.allows g.O.Object.after g.O.Object.kept _ f.0 f.1.0 c.args.pass.id c.args.pass.me.0 f.1.1 c.requires.lock.2 c.requires.share).2
