-- The response that the arguments of a message tell.
use Rattle.std.specs.Prelude.{◌≡◌, List, [], ◌∷◌, None, Result, Ok, Err, is_some, unwrap_or}
use Rattle.spop_data.specs.declared.value.Pair.{Pair}
use Rattle.spop_web.specs.declared.argument.Arg.TheVariants as arguments
use Rattle.spop_web.specs.declared.argument.ArgFault.{ArgFault}
use Rattle.spop_web.specs.declared.response.Told.{Told}
use Rattle.spop_web.specs.Reading.{Rule, rule, first_bad}
use Rattle.spop_web.specs.Refusal.{RefusesFirst}
use Rattle.spop_web.specs.Values.{application_in, given, identifier_in, status_in, text_in}

-- the arguments in the order in which they are checked
abbrev pub response_rules : List Rule
response_rules =
    rule arguments.Id (λ v. is_some (identifier_in v))
    ∷ rule arguments.App (λ v. is_some (application_in v))
    ∷ rule arguments.Status (λ v. is_some (status_in v))
    ∷ rule arguments.Version (λ v. is_some (text_in v))
    ∷ rule arguments.Headers (λ v. is_some (text_in v))
    ∷ rule arguments.Body (λ v. is_some (text_in v))
    ∷ []

-- what the arguments tell, where all are good
abbrev pub told_of : List Pair → Told
told_of args = record {
  app = unwrap_or (application_in (given arguments.App args)) [];
  id = unwrap_or (identifier_in (given arguments.Id args)) [];
  response = record {
    version = unwrap_or (text_in (given arguments.Version args)) [];
    status = unwrap_or (status_in (given arguments.Status args)) 0;
    headers = unwrap_or (text_in (given arguments.Headers args)) [];
    body = unwrap_or (text_in (given arguments.Body args)) [];
  };
}

-- the response where no argument is bad, and else the first that is
abbrev pub IsTold : List Pair → Result Told ArgFault → Type 0
IsTold args (Ok told) = (first_bad response_rules args ≡ None) × (told ≡ told_of args)
IsTold args (Err fault) = RefusesFirst fault (first_bad response_rules args) (identifier_in (given arguments.Id args))
