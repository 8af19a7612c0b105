-- The request that the arguments of a message tell.
use Rattle.std.specs.Prelude.{◌≡◌, List, [], ◌∷◌, None, Result, Ok, Err, is_some, unwrap_or}
use Rattle.spop_data.specs.declared.value.Pair.{Pair}
use Rattle.web_parts.specs.declared.address.Address.TheVariants as addresses
use Rattle.spop_web.specs.declared.argument.Arg.TheVariants as arguments
use Rattle.spop_web.specs.declared.argument.ArgFault.{ArgFault}
use Rattle.spop_web.specs.declared.request.Asked.{Asked}
use Rattle.spop_web.specs.Reading.{Rule, rule, first_bad}
use Rattle.spop_web.specs.Refusal.{RefusesFirst}
use Rattle.spop_web.specs.Values.{address_in, application_in, given, identifier_in, method_in, port_in, text_in}

-- the arguments in the order in which they are checked
abbrev pub request_rules : List Rule
request_rules =
    rule arguments.Id (λ v. is_some (identifier_in v))
    ∷ rule arguments.App (λ v. is_some (application_in v))
    ∷ rule arguments.SrcIp (λ v. is_some (address_in v))
    ∷ rule arguments.DstIp (λ v. is_some (address_in v))
    ∷ rule arguments.SrcPort (λ v. is_some (port_in v))
    ∷ rule arguments.DstPort (λ v. is_some (port_in v))
    ∷ rule arguments.Method (λ v. is_some (method_in v))
    ∷ rule arguments.Path (λ v. is_some (text_in v))
    ∷ rule arguments.Query (λ v. is_some (text_in v))
    ∷ rule arguments.Version (λ v. is_some (text_in v))
    ∷ rule arguments.Headers (λ v. is_some (text_in v))
    ∷ rule arguments.Body (λ v. is_some (text_in v))
    ∷ []

-- what the arguments tell, where all are good
abbrev pub asked_of : List Pair → Asked
asked_of args = record {
  app = unwrap_or (application_in (given arguments.App args)) [];
  request = record {
    id = unwrap_or (identifier_in (given arguments.Id args)) [];
    src = unwrap_or (address_in (given arguments.SrcIp args)) addresses.None;
    src_port = unwrap_or (port_in (given arguments.SrcPort args)) None;
    dst = unwrap_or (address_in (given arguments.DstIp args)) addresses.None;
    dst_port = unwrap_or (port_in (given arguments.DstPort args)) None;
    method = unwrap_or (method_in (given arguments.Method args)) [];
    path = unwrap_or (text_in (given arguments.Path args)) [];
    query = unwrap_or (text_in (given arguments.Query args)) [];
    version = unwrap_or (text_in (given arguments.Version args)) [];
    headers = unwrap_or (text_in (given arguments.Headers args)) [];
    body = unwrap_or (text_in (given arguments.Body args)) [];
  };
}

-- the request where no argument is bad, and else the first that is
abbrev pub IsAsked : List Pair → Result Asked ArgFault → Type 0
IsAsked args (Ok asked) = (first_bad request_rules args ≡ None) × (asked ≡ asked_of args)
IsAsked args (Err fault) = RefusesFirst fault (first_bad request_rules args) (identifier_in (given arguments.Id args))
