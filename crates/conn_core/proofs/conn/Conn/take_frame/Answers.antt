use Rattle.std.proofs.Common.{◌≡◌, ◌+◌, ◌*◌, ◌<◌, length, List, ℕ, refl, ◌∙◌, ap, arith}
use Rattle.spop_frame.specs.Head.{head_of, Bad, Whole}
use Rattle.spop_frame.specs.Held as framer
use Rattle.spop_frame.specs.Header.{frame_seen}
use Rattle.spop_frame.specs.declared.frame.Frame.{Frame}
use Rattle.conn_core.specs.Stands.{ConnView, calls_left}
use Rattle.conn_core.specs.Trace.{limit_of}
use Rattle.conn_core.proofs.Heads.{shorter}
use Rattle.conn_core.proofs.Inner.{head_bad, head_whole}
use Rattle.conn_core.proofs.conn.Conn.take_frame.Goals as goal

pub returns-in-Bad-clause-done : goal.returns-in-Bad-clause-done
returns-in-Bad-clause-done g c = λ f s p.
    let self = c.args.self.now in
    let limit : c.set_limit.new.self.limit ≡ limit_of self.size self.agreed = ap (λ (h : framer.Held). h.limit) c.set_limit.ensures ∙ c.limit-limit.ensures in
    let bytes : c.set_limit.new.self.bytes ≡ self.unread = ap (λ (h : framer.Held). h.bytes) c.set_limit.ensures ∙ ap (λ (h : ConnView g.row.R.Denot g.row.P.Denot g.row.T.Denot). h.unread) c.self.view_is in
    let head : head_of (limit_of self.size self.agreed) self.unread ≡ Bad c.in-Bad.status = rw (← limit, ← bytes) c.in-Bad.ensures in
    let next = head_bad self s c.requires.at c.in-Bad.status head p in
    let seen = rw (← c.self.view_is) at next in
    let held : c.set_limit.new.self.bytes ≡ c.self.inside.framer.bytes = ap (λ (h : framer.Held). h.bytes) c.set_limit.ensures in
    c.refuse.ensures.next s (rw held seen)

pub returns-clause-on : goal.returns-clause-on
returns-clause-on g c = λ f.
    let self = c.args.self.now in
    let frame : Frame = frame_seen c.in-Whole.header in
    let rest : List ℕ = c.in-Whole.ensures.0 in
    let limit : c.set_limit.new.self.limit ≡ limit_of self.size self.agreed = ap (λ (h : framer.Held). h.limit) c.set_limit.ensures ∙ c.limit-limit.ensures in
    let bytes : c.set_limit.new.self.bytes ≡ self.unread = ap (λ (h : framer.Held). h.bytes) c.set_limit.ensures ∙ ap (λ (h : ConnView g.row.R.Denot g.row.P.Denot g.row.T.Denot). h.unread) c.self.view_is in
    let head : head_of (limit_of self.size self.agreed) self.unread ≡ Whole frame rest = rw (← limit, ← bytes) c.in-Whole.ensures.1 in
    let left : c.skip.new.self.bytes ≡ rest = ap (λ (h : framer.Held). h.bytes) (c.skip.ensures.off frame rest c.in-Whole.ensures.1) in
    let less = shorter (limit_of self.size self.agreed) self.unread frame rest head in
    let same = (c.take.ensures.on f).0 in
    let at_bytes = rw (← c.self.view_is) at c.requires.at in
    let whole = rw (← c.self.view_is) at c.requires.whole in (
      ap (λ (h : ConnView g.row.R.Denot g.row.P.Denot g.row.T.Denot). h.stage) same ∙ at_bytes,
      ap (λ (h : ConnView g.row.R.Denot g.row.P.Denot g.row.T.Denot). h.broken) same ∙ whole,
      omega (arith, less, ap length left, ap (λ (h : ConnView g.row.R.Denot g.row.P.Denot g.row.T.Denot). length h.unread) same),
      λ s p.
          let next = head_whole self s c.requires.at frame rest head p in
          let seen = rw (← c.self.view_is) at next in
          (c.take.ensures.on f).1 frame c.heard_in-heard.ensures.hears s (rw left seen),
    )

pub returns-clause-done : goal.returns-clause-done
returns-clause-done g c = λ f s p.
    let self = c.args.self.now in
    let frame : Frame = frame_seen c.in-Whole.header in
    let rest : List ℕ = c.in-Whole.ensures.0 in
    let limit : c.set_limit.new.self.limit ≡ limit_of self.size self.agreed = ap (λ (h : framer.Held). h.limit) c.set_limit.ensures ∙ c.limit-limit.ensures in
    let bytes : c.set_limit.new.self.bytes ≡ self.unread = ap (λ (h : framer.Held). h.bytes) c.set_limit.ensures ∙ ap (λ (h : ConnView g.row.R.Denot g.row.P.Denot g.row.T.Denot). h.unread) c.self.view_is in
    let head : head_of (limit_of self.size self.agreed) self.unread ≡ Whole frame rest = rw (← limit, ← bytes) c.in-Whole.ensures.1 in
    let left : c.skip.new.self.bytes ≡ rest = ap (λ (h : framer.Held). h.bytes) (c.skip.ensures.off frame rest c.in-Whole.ensures.1) in
    let next = head_whole self s c.requires.at frame rest head p in
    let seen = rw (← c.self.view_is) at next in
    c.take.ensures.done f frame c.heard_in-heard.ensures.hears s (rw left seen)

pub returns-clause-fewer : goal.returns-clause-fewer
returns-clause-fewer g c =
    let self = c.args.self.now in
    let frame : Frame = frame_seen c.in-Whole.header in
    let rest : List ℕ = c.in-Whole.ensures.0 in
    let limit : c.set_limit.new.self.limit ≡ limit_of self.size self.agreed = ap (λ (h : framer.Held). h.limit) c.set_limit.ensures ∙ c.limit-limit.ensures in
    let bytes : c.set_limit.new.self.bytes ≡ self.unread = ap (λ (h : framer.Held). h.bytes) c.set_limit.ensures ∙ ap (λ (h : ConnView g.row.R.Denot g.row.P.Denot g.row.T.Denot). h.unread) c.self.view_is in
    let head : head_of (limit_of self.size self.agreed) self.unread ≡ Whole frame rest = rw (← limit, ← bytes) c.in-Whole.ensures.1 in
    let left : c.skip.new.self.bytes ≡ rest = ap (λ (h : framer.Held). h.bytes) (c.skip.ensures.off frame rest c.in-Whole.ensures.1) in
    let less = shorter (limit_of self.size self.agreed) self.unread frame rest head in
    let fewer : calls_left c.take.new.self < 16 * (length c.skip.new.self.bytes + length c.self.inside.left.items + (1 + length frame.payload)) = c.take.ensures.fewer frame c.heard_in-heard.ensures.hears in
    let bound : calls_left self ≡ 16 * (length self.unread + length self.left) + 3 = rw c.requires.at refl in
    omega (arith, fewer, less, bound, ap length left, ap (λ (h : ConnView g.row.R.Denot g.row.P.Denot g.row.T.Denot). length h.left) c.self.view_is)
