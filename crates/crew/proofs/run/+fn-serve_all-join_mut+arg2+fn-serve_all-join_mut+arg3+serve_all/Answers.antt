use Rattle.std.proofs.Common.{◌≡◌, ◌+◌, ◌/◌, ◌++◌, length, rules, subst₂}
use Rattle.crew.specs.Served.{Each}
use Rattle.crew.proofs.Both.{both}
use Rattle.crew.proofs.run.+fn-serve_all-join_mut+arg2+fn-serve_all-join_mut+arg3+serve_all.Goals as goal

pub returns : goal.returns
returns g t c =
    let did = g.T.Shift.did c.args.shift.now in
    let ds = c.split_at_mut-left_doors.result in
    let ms = c.split_at_mut-left.result in
    let first = c.args.first in
    let second = first + length c.args.doors.now / 2 in
    let left : Each did first ds.0.now c.left_doors-1.given.0 ms.0.now c.left-1.given.0 = search rules in
    let right : Each did second ds.1.now c.right_doors-1.given.0 ms.1.now c.right-1.given.0 = search rules in
    let doors : ds.0.now ++ ds.1.now ≡ c.args.doors.now = search rules in
    let members : ms.0.now ++ ms.1.now ≡ c.args.members.now = search rules in
    let on : second ≡ first + length ds.0.now = search rules in
    subst₂ (λ x y. Each did first x (c.left_doors-1.given.0 ++ c.right_doors-1.given.0) y (c.left-1.given.0 ++ c.right-1.given.0)) doors members
    (both did first second ds.0.now c.left_doors-1.given.0 ms.0.now c.left-1.given.0 ds.1.now c.right_doors-1.given.0 ms.1.now c.right-1.given.0 on left right)
