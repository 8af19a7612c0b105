-- The five settings of a listing.
use Rattle.std.specs.Prelude.{ℕ, Bool, true, false, codes, List, Option, Some, None, if◌then◌else◌}
use Rattle.std.specs.Option.{option_map}
use Rattle.std.specs.Str.{str_eq_ignore_ascii_case}
use Rattle.sec_ast.specs.Settings.{engine_named}
use Rattle.sec_ast.specs.declared.settings.Engine.TheVariants as engines
use Rattle.sec_parts.specs.Changes.{switch_named}
use Rattle.sec_parts.specs.Numbers.{number_in}
use Rattle.sec_read.specs.declared.settings.TheConstants.{FIRST_REQUEST_LIMIT, MAX_REQUEST_LIMIT}
use Rattle.sec_read.specs.declared.settings.Setting.{Setting}
use Rattle.sec_read.specs.declared.settings.Setting.TheVariants as kinds
use Rattle.sec_read.specs.declared.settings.Settings.{Settings}

-- where no directive sets them
abbrev pub first_settings : Settings
first_settings = record {
  engine = engines.On;
  request_body = true;
  request_limit = FIRST_REQUEST_LIMIT;
  limit_reject = true;
  response_body = false;
}

-- what a body over the limit meets: Reject or ProcessPartial
unfoldable pub rejection_named : List ℕ → Option Bool
rejection_named word =
    if str_eq_ignore_ascii_case word (codes "Reject") then Some true
    else (if str_eq_ignore_ascii_case word (codes "ProcessPartial") then Some false else None)

-- the settings once one has this value; none where it is none of that setting
abbrev pub with_setting : Setting → List ℕ → Settings → Option Settings
with_setting kinds.Engine word settings = option_map (λ engine. record settings { engine = engine }) (engine_named word)
with_setting kinds.RequestBodyAccess word settings =
    option_map (λ is_on. record settings { request_body = is_on }) (switch_named word)
with_setting kinds.RequestBodyLimit word settings =
    option_map (λ limit. record settings { request_limit = limit }) (number_in 1 MAX_REQUEST_LIMIT word)
with_setting kinds.RequestBodyLimitAction word settings =
    option_map (λ rejects. record settings { limit_reject = rejects }) (rejection_named word)
with_setting kinds.ResponseBodyAccess word settings =
    option_map (λ is_on. record settings { response_body = is_on }) (switch_named word)
