use Rattle.std.proofs.Common.{rules, ◌≡◌, ◌≤◌, ◌++◌, ◌∙◌, ap, arith, length, length-append}
use Rattle.std.specs.Int.{to_be_bytes, w32}
use Rattle.spop_frame.specs.Writing.{body_bytes}
use Rattle.spop_frame.proofs.Spellings.{same_body, body_is, few_bytes}
use Rattle.spop_frame.proofs.write.write_frame.Goals as goal

pub overflow_add-len : goal.overflow_add-len
overflow_add-len c =
    let few : length c.in_ok-header.header ≤ 25 = omega (arith, few_bytes _ c.args.frame.now c.in_ok-header.ensures, length-append c.in_ok-header.header c.args.frame.now.payload) in
    search rules

pub returns-in-Ok-append_all-clause-never : goal.returns-in-Ok-append_all-clause-never
returns-in-Ok-append_all-clause-never c = λ long.
    let same : long.0 ≡ c.in_ok-header.header ++ c.args.frame.now.payload = same_body c.args.frame.now _ _ long.1 c.in_ok-header.ensures in
    omega (arith, long.2, ap length same, length-append c.in_ok-header.header c.args.frame.now.payload, c.in-Ok.ensures, c.len.ensures, ap length c.as_slice-payload.ensures)

pub returns-in-Ok-append_all-clause-exact : goal.returns-in-Ok-append_all-clause-exact
returns-in-Ok-append_all-clause-exact c =
    let f = c.args.frame.now in
    let body : c.in_ok-header.header ++ f.payload ≡ body_bytes f = body_is f _ c.in_ok-header.ensures in
    let parts : c.as_slice.result.now ++ c.as_slice-payload.result.now ≡ body_bytes f = (λ i. c.as_slice.ensures i ++ c.as_slice-payload.ensures i) ∙ body in
    let size : c.in-Ok.length ≡ length (body_bytes f) = omega (arith, c.in-Ok.ensures, c.len.ensures, ap length c.as_slice-payload.ensures, ap length body, length-append c.in_ok-header.header f.payload) in
    c.in-Ok-append_all.ensures.ok ∙ (λ i. c.args.out.now ++ (to_be_bytes w32 (size i) ++ parts i))
