-- What a rule does that does not say it: `SecDefaultAction`.
use Rattle.std.specs.Prelude.{ℕ, ◌==◌, true, unwrap_or, if◌then◌else◌}
use Rattle.sec_ast.specs.declared.Disrupt.TheVariants as disrupts
use Rattle.sec_parts.specs.declared.acts.Acts.{Acts}
use Rattle.sec_read.specs.declared.defaults.PhaseDefault.{PhaseDefault}
use Rattle.sec_read.specs.declared.defaults.Defaults.{Defaults}
use Rattle.sec_read.specs.declared.defaults.TheConstants.{REQUEST_BODY, REQUEST_HEADERS, RESPONSE_BODY, RESPONSE_HEADERS}

-- those at the start
abbrev pub first_default : PhaseDefault
first_default = record { disrupt = disrupts.Pass; status = 0; log = true }

abbrev pub first_defaults : Defaults
first_defaults = record {
  request_headers = first_default;
  request_body = first_default;
  response_headers = first_default;
  response_body = first_default;
  logging = first_default;
}

-- those of a directive; what it does not name is as at the start
abbrev pub default_of : Acts → PhaseDefault
default_of acts = record {
  disrupt = unwrap_or acts.disrupt first_default.disrupt;
  status = unwrap_or acts.status first_default.status;
  log = unwrap_or acts.log first_default.log;
}

-- of each phase; the last is the logging's
unfoldable pub default_at : ℕ → Defaults → PhaseDefault
default_at phase defaults =
    if phase == REQUEST_HEADERS then defaults.request_headers
    else (if phase == REQUEST_BODY then defaults.request_body
    else (if phase == RESPONSE_HEADERS then defaults.response_headers
    else (if phase == RESPONSE_BODY then defaults.response_body
    else defaults.logging)))

unfoldable pub with_default : ℕ → PhaseDefault → Defaults → Defaults
with_default phase default defaults =
    if phase == REQUEST_HEADERS then record defaults { request_headers = default }
    else (if phase == REQUEST_BODY then record defaults { request_body = default }
    else (if phase == RESPONSE_HEADERS then record defaults { response_headers = default }
    else (if phase == RESPONSE_BODY then record defaults { response_body = default }
    else record defaults { logging = default })))
