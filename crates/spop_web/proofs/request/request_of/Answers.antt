use Rattle.std.proofs.Common.{◌≡◌, ◌∙◌, ℕ, List, [], Option, None, rules, sym, ap}
use Rattle.std.specs.Prelude.{unwrap_or}
use Rattle.web_parts.specs.declared.address.Address.TheVariants as addresses
use Rattle.spop_web.specs.declared.argument.Arg.TheVariants as arguments
use Rattle.spop_web.specs.Reading.{first_bad}
use Rattle.spop_web.specs.Request.{request_rules}
use Rattle.spop_web.specs.Values.{address_in, application_in, given, identifier_in, method_in, port_in, text_in}
use Rattle.spop_web.proofs.Chains.{begin, next, refuses}
use Rattle.spop_web.proofs.Fields.{fields}
use Rattle.spop_web.proofs.request.request_of.Goals as goal

pub returns-in-Some : goal.returns-in-Some
returns-in-Some c =
    let args = c.args.args in
    let s0 = begin request_rules args c.new-reader.result.args c.new-reader.result.bad c.new-reader.ensures.args c.new-reader.ensures.bad in
    let s1 = next _ _ _ _ _ _ _ _ s0 c.identifier-id.ensures.args c.identifier-id.ensures.bad (search rules) in
    let s2 = next _ _ _ _ _ _ _ _ s1 c.application-app.ensures.args c.application-app.ensures.bad (search rules) in
    let s3 = next _ _ _ _ _ _ _ _ s2 c.address-src.ensures.args c.address-src.ensures.bad (search rules) in
    let s4 = next _ _ _ _ _ _ _ _ s3 c.address-dst.ensures.args c.address-dst.ensures.bad (search rules) in
    let s5 = next _ _ _ _ _ _ _ _ s4 c.port-src_port.ensures.args c.port-src_port.ensures.bad (search rules) in
    let s6 = next _ _ _ _ _ _ _ _ s5 c.port-dst_port.ensures.args c.port-dst_port.ensures.bad (search rules) in
    let s7 = next _ _ _ _ _ _ _ _ s6 c.method-method.ensures.args c.method-method.ensures.bad (search rules) in
    let s8 = next _ _ _ _ _ _ _ _ s7 c.text-path.ensures.args c.text-path.ensures.bad (search rules) in
    let s9 = next _ _ _ _ _ _ _ _ s8 c.text-query.ensures.args c.text-query.ensures.bad (search rules) in
    let s10 = next _ _ _ _ _ _ _ _ s9 c.text-version.ensures.args c.text-version.ensures.bad (search rules) in
    let s11 = next _ _ _ _ _ _ _ _ s10 c.text-headers.ensures.args c.text-headers.ensures.bad (search rules) in
    let s12 = next _ _ _ _ _ _ _ _ s11 c.text-body.ensures.args c.text-body.ensures.bad (search rules) in
    let id = c.identifier-id.ensures.value ∙ ap identifier_in s0.same.0 in
    refuses c.in-Some.arg c.text-body.new.self.bad (first_bad request_rules args) c.identifier-id.result (identifier_in (given arguments.Id args)) c.in-Some.is s12.left id

pub returns : goal.returns
returns c =
    let args = c.args.args in
    let s0 = begin request_rules args c.new-reader.result.args c.new-reader.result.bad c.new-reader.ensures.args c.new-reader.ensures.bad in
    let s1 = next _ _ _ _ _ _ _ _ s0 c.identifier-id.ensures.args c.identifier-id.ensures.bad (search rules) in
    let s2 = next _ _ _ _ _ _ _ _ s1 c.application-app.ensures.args c.application-app.ensures.bad (search rules) in
    let s3 = next _ _ _ _ _ _ _ _ s2 c.address-src.ensures.args c.address-src.ensures.bad (search rules) in
    let s4 = next _ _ _ _ _ _ _ _ s3 c.address-dst.ensures.args c.address-dst.ensures.bad (search rules) in
    let s5 = next _ _ _ _ _ _ _ _ s4 c.port-src_port.ensures.args c.port-src_port.ensures.bad (search rules) in
    let s6 = next _ _ _ _ _ _ _ _ s5 c.port-dst_port.ensures.args c.port-dst_port.ensures.bad (search rules) in
    let s7 = next _ _ _ _ _ _ _ _ s6 c.method-method.ensures.args c.method-method.ensures.bad (search rules) in
    let s8 = next _ _ _ _ _ _ _ _ s7 c.text-path.ensures.args c.text-path.ensures.bad (search rules) in
    let s9 = next _ _ _ _ _ _ _ _ s8 c.text-query.ensures.args c.text-query.ensures.bad (search rules) in
    let s10 = next _ _ _ _ _ _ _ _ s9 c.text-version.ensures.args c.text-version.ensures.bad (search rules) in
    let s11 = next _ _ _ _ _ _ _ _ s10 c.text-headers.ensures.args c.text-headers.ensures.bad (search rules) in
    let s12 = next _ _ _ _ _ _ _ _ s11 c.text-body.ensures.args c.text-body.ensures.bad (search rules) in
    let nothing : c.text-body.new.self.bad ≡ None = search rules in
    let app = c.application-app.ensures.value ∙ ap (λ v. unwrap_or (application_in v) []) s1.same.0 in
    let id = c.or_empty.ensures ∙ ap (λ (t : Option (List ℕ)). unwrap_or t []) (c.identifier-id.ensures.value ∙ ap identifier_in s0.same.0) in
    let src = c.address-src.ensures.value ∙ ap (λ v. unwrap_or (address_in v) addresses.None) s2.same.0 in
    let dst = c.address-dst.ensures.value ∙ ap (λ v. unwrap_or (address_in v) addresses.None) s3.same.0 in
    let src_port = c.port-src_port.ensures.value ∙ ap (λ v. unwrap_or (port_in v) None) s4.same.0 in
    let dst_port = c.port-dst_port.ensures.value ∙ ap (λ v. unwrap_or (port_in v) None) s5.same.0 in
    let method = c.method-method.ensures.value ∙ ap (λ v. unwrap_or (method_in v) []) s6.same.0 in
    let path = c.text-path.ensures.value ∙ ap (λ v. unwrap_or (text_in v) []) s7.same.0 in
    let query = c.text-query.ensures.value ∙ ap (λ v. unwrap_or (text_in v) []) s8.same.0 in
    let version = c.text-version.ensures.value ∙ ap (λ v. unwrap_or (text_in v) []) s9.same.0 in
    let headers = c.text-headers.ensures.value ∙ ap (λ v. unwrap_or (text_in v) []) s10.same.0 in
    let body = c.text-body.ensures.value ∙ ap (λ v. unwrap_or (text_in v) []) s11.same.0 in
    (sym s12.left ∙ nothing, fields app id src src_port dst dst_port method path query version headers body)
