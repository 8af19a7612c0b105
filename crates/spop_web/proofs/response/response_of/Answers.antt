use Rattle.std.proofs.Common.{◌≡◌, ◌∙◌, None, refl, rules, sym, ap}
use Rattle.spop_web.specs.declared.argument.Arg.TheVariants as arguments
use Rattle.spop_web.specs.Reading.{first_bad}
use Rattle.spop_web.specs.Response.{response_rules}
use Rattle.spop_web.specs.Values.{given, identifier_in}
use Rattle.spop_web.proofs.Chains.{begin, next, refuses}
use Rattle.spop_web.proofs.response.response_of.Goals as goal

pub returns-in-Some : goal.returns-in-Some
returns-in-Some c =
    let args = c.args.args in
    let s0 = begin response_rules args c.new-reader.result.args c.new-reader.result.bad c.new-reader.ensures.args c.new-reader.ensures.bad in
    let s1 = next _ _ _ _ _ _ _ _ s0 c.identifier-id.ensures.args c.identifier-id.ensures.bad (search rules) in
    let s2 = next _ _ _ _ _ _ _ _ s1 c.application-app.ensures.args c.application-app.ensures.bad (search rules) in
    let s3 = next _ _ _ _ _ _ _ _ s2 c.status-status.ensures.args c.status-status.ensures.bad (search rules) in
    let s4 = next _ _ _ _ _ _ _ _ s3 c.text-version.ensures.args c.text-version.ensures.bad (search rules) in
    let s5 = next _ _ _ _ _ _ _ _ s4 c.text-headers.ensures.args c.text-headers.ensures.bad (search rules) in
    let s6 = next _ _ _ _ _ _ _ _ s5 c.text-body.ensures.args c.text-body.ensures.bad (search rules) in
    let id = c.identifier-id.ensures.value ∙ ap identifier_in s0.same.0 in
    refuses c.in-Some.arg c.text-body.new.self.bad (first_bad response_rules args) c.identifier-id.result (identifier_in (given arguments.Id args)) c.in-Some.is s6.left id

pub returns : goal.returns
returns c =
    let args = c.args.args in
    let s0 = begin response_rules args c.new-reader.result.args c.new-reader.result.bad c.new-reader.ensures.args c.new-reader.ensures.bad in
    let s1 = next _ _ _ _ _ _ _ _ s0 c.identifier-id.ensures.args c.identifier-id.ensures.bad (search rules) in
    let s2 = next _ _ _ _ _ _ _ _ s1 c.application-app.ensures.args c.application-app.ensures.bad (search rules) in
    let s3 = next _ _ _ _ _ _ _ _ s2 c.status-status.ensures.args c.status-status.ensures.bad (search rules) in
    let s4 = next _ _ _ _ _ _ _ _ s3 c.text-version.ensures.args c.text-version.ensures.bad (search rules) in
    let s5 = next _ _ _ _ _ _ _ _ s4 c.text-headers.ensures.args c.text-headers.ensures.bad (search rules) in
    let s6 = next _ _ _ _ _ _ _ _ s5 c.text-body.ensures.args c.text-body.ensures.bad (search rules) in
    let nothing : c.text-body.new.self.bad ≡ None = search rules in (
      sym s6.left ∙ nothing,
      rw (c.application-app.ensures.value, s1.same.0, c.or_empty.ensures, c.identifier-id.ensures.value, s0.same.0, c.text-version.ensures.value, s3.same.0, c.status-status.ensures.value, s2.same.0, c.text-headers.ensures.value, s4.same.0, c.text-body.ensures.value, s5.same.0) refl,
    )
