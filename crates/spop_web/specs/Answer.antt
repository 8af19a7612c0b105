-- The names and numbers of an ACK's variables, and the names of the messages that it answers.
use Rattle.std.specs.Prelude.{ℕ, List, codes}
use Rattle.spop_web.specs.declared.answer.AckError.{AckError}
use Rattle.spop_web.specs.declared.answer.AckError.TheVariants as errors
use Rattle.spop_web.specs.declared.answer.AckVariable.{AckVariable}
use Rattle.spop_web.specs.declared.answer.AckVariable.TheVariants as variables
use Rattle.spop_web.specs.declared.message.TheConstants.{REQUEST_MESSAGE, RESPONSE_MESSAGE}

abbrev pub variable_name : AckVariable → List ℕ
variable_name variables.Id = codes "id"
variable_name variables.Action = codes "action"
variable_name variables.Status = codes "status"
variable_name variables.Data = codes "data"
variable_name variables.RuleId = codes "ruleid"
variable_name variables.Error = codes "error"

abbrev pub error_number : AckError → ℕ
error_number errors.UnknownApp = 1
error_number errors.IdInUse = 2
error_number errors.TableFull = 3
error_number errors.NotParked = 4
error_number errors.BadArgument = 5
error_number errors.Worn = 6

-- the message that tells a request, and the one that tells a response
abbrev pub request_message : List ℕ
request_message = REQUEST_MESSAGE.now

abbrev pub response_message : List ℕ
response_message = RESPONSE_MESSAGE.now
