use Rattle.std.proofs.Common.{rules, ◌<◌, refl, ap, ◌∙◌, subst, sym, ◌∷◌, Some}
use Rattle.atomic_table.specs.Table.{rest}
use Rattle.turn_lock.specs.History.{entry}
use Rattle.turn_lock.specs.View.{ended}
use Rattle.turn_lock.proofs.Serving.{notes, served, ready_ends, extends}
use Rattle.turn_lock.proofs.Steps.{draw_keeps}
use Rattle.turn_lock.proofs.calls.TurnLock+O.take_turn.Goals as goal

pub fetch_add-turn-requires : goal.fetch_add-turn-requires
fetch_add-turn-requires g c = (
  search rules,
  search rules,
  draw_keeps g.O.Object.may g.O.Object.allows g.O.Object.after g.O.Object.kept _ _ _ c.args.pass.now.me c.requires.lock.2 c.requires.lock.3,
)

pub exchange-requires : goal.exchange-requires
exchange-requires g c = let a = c.await_turn.ensures.come in (search rules, (Some a.0, a.2 ∙ (λ k. (0, Some a.0) ∷ sym (ap rest a.2) k)))

pub fetch_add-requires : goal.fetch_add-requires
fetch_add-requires g c =
    let d = c.fetch_add-turn.ensures.2.1 in
    let s = served g.O.Object.may g.O.Object.allows g.O.Object.after g.O.Object.fits _ c.args.pass.now.me.0 c.fetch_add-turn.new.seat.me.0 d.0 c.await_turn.new.pass.me c.exchange.new.seat.me c.exchange-2.new.seat.me
    c.in-Some.held _ c.exchange.result c.into_object-object.result c.act-reply.new.self c.args.call c.act-reply.result
    c.requires.lock.4 d.2 c.await_turn.ensures.come c.exchange.ensures.2 c.in-Some.is c.exchange.ensures.3 c.exchange-2.ensures.3
    c.into_object-object.ensures c.requires.fits c.act-reply.ensures.reply c.act-reply.ensures.state in (
      search rules,
      search rules,
      ready_ends g.O.Object.may g.O.Object.allows g.O.Object.after g.O.Object.fits g.O.Object.kept _ g.met.O.Object.kept_call _ _ c.exchange-2.new.seat.me _ c.args.pass.now.me.0 _ _ c.args.call c.act-reply.result s.0 s.1
          (notes c.exchange-2.new.seat.me.1 _ _ c.args.call c.act-reply.result s.1 refl c.of-asked.ensures c.of.ensures),
    )

pub returns-clause-lock : goal.returns-clause-lock
returns-clause-lock g c =
    let d = c.fetch_add-turn.ensures.2.1 in
    let s = served g.O.Object.may g.O.Object.allows g.O.Object.after g.O.Object.fits _ c.args.pass.now.me.0 c.fetch_add-turn.new.seat.me.0 d.0 c.await_turn.new.pass.me c.exchange.new.seat.me c.exchange-2.new.seat.me
    c.in-Some.held _ c.exchange.result c.into_object-object.result c.act-reply.new.self c.args.call c.act-reply.result
    c.requires.lock.4 d.2 c.await_turn.ensures.come c.exchange.ensures.2 c.in-Some.is c.exchange.ensures.3 c.exchange-2.ensures.3
    c.into_object-object.ensures c.requires.fits c.act-reply.ensures.reply c.act-reply.ensures.state in
    let told = c.fetch_add.ensures.2.1 (entry c.args.call c.act-reply.result) (notes c.exchange-2.new.seat.me.1 _ _ c.args.call c.act-reply.result s.1 refl c.of-asked.ensures c.of.ensures) in
    let is = told.0 ∙ ap (λ v. ended v (entry c.args.call c.act-reply.result)) s.0.view in (
      search rules,
      c.fetch_add.ensures.2.0,
      ap (λ v. v.stage) told.0,
      subst (λ v. 0 < v.share) (sym is) c.requires.lock.3,
      ap (λ v. v.start) is ∙ c.requires.lock.4,
    )

pub returns-clause-call : goal.returns-clause-call
returns-clause-call g c =
    let d = c.fetch_add-turn.ensures.2.1 in
    let s = served g.O.Object.may g.O.Object.allows g.O.Object.after g.O.Object.fits _ c.args.pass.now.me.0 c.fetch_add-turn.new.seat.me.0 d.0 c.await_turn.new.pass.me c.exchange.new.seat.me c.exchange-2.new.seat.me
    c.in-Some.held _ c.exchange.result c.into_object-object.result c.act-reply.new.self c.args.call c.act-reply.result
    c.requires.lock.4 d.2 c.await_turn.ensures.come c.exchange.ensures.2 c.in-Some.is c.exchange.ensures.3 c.exchange-2.ensures.3
    c.into_object-object.ensures c.requires.fits c.act-reply.ensures.reply c.act-reply.ensures.state in
    let told = c.fetch_add.ensures.2.1 (entry c.args.call c.act-reply.result) (notes c.exchange-2.new.seat.me.1 _ _ c.args.call c.act-reply.result s.1 refl c.of-asked.ensures c.of.ensures) in
    extends g.O.Object.may g.O.Object.allows g.O.Object.after g.O.Object.fits _ c.args.pass.now c.fetch_add.new.seat _ c.act-reply.new.self c.args.call c.act-reply.result c.exchange-2.new.seat.me s.0 told.0 told.1
