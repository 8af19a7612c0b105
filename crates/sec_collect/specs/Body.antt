-- The body of a request, once it is opened.
use Rattle.std.specs.Prelude.{ℕ, ◌||◌, ◌==◌, Bool, true, false, cond, List, [], codes, decimal, length, take, nat_lt, Option, Some, None}
use Rattle.std.specs.List.{before_first}
use Rattle.std.specs.Str.{str_eq_ignore_ascii_case}
use Rattle.sec_ast.specs.declared.settings.Processor.{Processor}
use Rattle.sec_ast.specs.declared.settings.Processor.TheVariants as processors
use Rattle.web_parts.specs.declared.row.NameValue.{NameValue}
use Rattle.web_parts.specs.Arguments.{argument_rows}
use Rattle.web_parts.specs.Headers.{header_rows}
use Rattle.web_parts.specs.Pieces.{is_blank}
use Rattle.sec_collect.specs.declared.marks.TheConstants.{COMMA, SEMICOLON}
use Rattle.sec_collect.specs.declared.parts.OpenedBody.{OpenedBody}
use Rattle.sec_collect.specs.Row.{value_named}
use Rattle.sec_collect.specs.TransactionView.{TransactionView}

-- `;`, `,` or a blank
abbrev pub ends_media_type : ℕ → Bool
ends_media_type b = b == SEMICOLON || b == COMMA || is_blank b

-- the media type of the header fields (RFC 9110, 8.3)
abbrev pub media_type : List NameValue → List ℕ
media_type headers = before_first ends_media_type (value_named (codes "content-type") headers)

-- pairs of a form (URL Standard, 5)
unfoldable pub is_form_type : List ℕ → Bool
is_form_type text = str_eq_ignore_ascii_case (codes "application/x-www-form-urlencoded") text

abbrev pub is_form : List NameValue → Bool
is_form headers = is_form_type (media_type headers)

-- the processor that `ctl` chose, or else the one that the media type chooses
abbrev pub chosen : Processor → List NameValue → Processor
chosen processors.Plain headers = cond (is_form headers) processors.Urlencoded processors.Plain
chosen processors.Urlencoded headers = processors.Urlencoded
chosen processors.Xml headers = processors.Xml

abbrev pub chosen_processor : TransactionView → Processor
chosen_processor s = chosen s.processor (header_rows s.request.headers)

-- the processor of an opened body, and else the one that would be chosen now
abbrev pub processor_of : Option OpenedBody → Processor → Processor
processor_of None chosen = chosen
processor_of (Some opened) chosen = opened.processor

abbrev pub is_urlencoded : Processor → Bool
is_urlencoded processors.Plain = false
is_urlencoded processors.Urlencoded = true
is_urlencoded processors.Xml = false

-- the bytes that the limit leaves
abbrev pub left_of : List ℕ → OpenedBody → List ℕ
left_of body opened = take opened.limit body

-- the arguments in the body
abbrev pub posted : List ℕ → Option OpenedBody → List NameValue
posted body None = []
posted body (Some opened) = cond (is_urlencoded opened.processor) (argument_rows (left_of body opened)) []

abbrev pub is_longer : List ℕ → Option OpenedBody → Bool
is_longer body None = false
is_longer body (Some opened) = nat_lt opened.limit (length body)

-- the number of the bytes that the limit leaves
abbrev pub left_length : List ℕ → OpenedBody → List ℕ
left_length body opened = decimal (length (left_of body opened))

-- `1` or `0`
abbrev pub flag_text : Bool → List ℕ
flag_text flag = cond flag (codes "1") (codes "0")
