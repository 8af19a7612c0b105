use Rattle.std.proofs.Common.{◌≡◌, ◌+◌, ◌-◌, ◌<◌, ◌≤◌, ℕ, List, length, take, Some, ap, sym, subst, arith, length-take}
use Rattle.regex_literal.specs.Find.{AnyOccursAt, Nowhere}
use Rattle.phrase_set.proofs.Nearer.{IsBest, missed, none_passed, none_nearer, nearer, found}
use Rattle.phrase_set.proofs.joint.first_end_of.Goals as goal

pub returns-in-Missing : goal.returns-in-Missing
returns-in-Missing c =
    let i = c.loop-best.invariant in
    missed c.args.needles.now c.args.text.now c.loop-best.front.now c.loop-best.from c.loop-best.best i.front i.none c.in-Missing.ensures.bounded i.best

pub loop-best-preserved-in-Tired : goal.loop-best-preserved-in-Tired
loop-best-preserved-in-Tired c =
    let i = c.loop-best.invariant in
    let first = c.in-Tired.ensures.bounded in
    record {
      front = i.front;
      within = i.within;
      fits = omega (arith, first.high);
      none = none_passed c.args.needles.now c.loop-best.front.now c.loop-best.from c.in-Tired.at i.none first;
      best = i.best;
    }

pub loop-best-preserved : goal.loop-best-preserved
loop-best-preserved c =
    let i = c.loop-best.invariant in
    let needles = c.args.needles.now in
    let text = c.args.text.now in
    let front = c.loop-best.front.now in
    let from = c.loop-best.from in
    let at = c.in-Found.at in
    let which = c.in-Found.which in
    let first = c.in-Found.ensures.bounded.0 in
    let one = c.in-Found.ensures.bounded.1 in
    let end = at + c.needle_len.result in
    let some : 0 < c.needle_len.result = omega (arith, c.needle_len.ensures, c.requires which one.within) in
    let inside : end ≤ length front = omega (arith, c.needle_len.ensures, one.occurs.fits) in
    let shorter : end - 1 ≤ length front = omega (arith, inside) in
    let is : c.split_at.result.0.now ≡ take (end - 1) front = c.split_at.ensures.front in
    let long : length c.split_at.result.0.now ≡ end - 1 = omega (arith, ap length is, length-take (end - 1) front, shorter) in
    let best : IsBest needles text (end - 1) (Some (at, end)) =
    found needles text front from at which end (end - 1) i.front i.none first one (omega (arith, c.needle_len.ensures)) (omega (arith, some)) in
    record {
      front = rw is (nearer text front (end - 1) i.front shorter);
      within = omega (arith, long, shorter, i.within);
      fits = omega (arith, long, some);
      none = subst (λ (l : List ℕ). Nowhere (AnyOccursAt l needles) 0 at) (sym is) (none_nearer needles front from at (end - 1) i.none first);
      best = subst (λ (m : ℕ). IsBest needles text m (Some (at, end))) (sym long) best;
    }
