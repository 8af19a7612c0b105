-- The texts of a response, once it is there.
use Rattle.std.specs.Prelude.{ℕ, cond, List, [], codes, decimal, length, Option, Some, None}
use Rattle.web_parts.specs.declared.row.NameValue.{NameValue}
use Rattle.web_parts.specs.Headers.{header_rows}
use Rattle.web_parts.specs.Pieces.{before, trimmed}
use Rattle.sec_collect.specs.declared.marks.TheConstants.{SEMICOLON}
use Rattle.sec_collect.specs.declared.parts.AddedResponse.{AddedResponse}
use Rattle.sec_collect.specs.Row.{single, value_named}
use Rattle.sec_collect.specs.Request.{protocol_text}

abbrev pub status_text : AddedResponse → List ℕ
status_text added = decimal added.response.status

abbrev pub response_protocol : AddedResponse → List ℕ
response_protocol added = protocol_text added.response.version

abbrev pub length_text : AddedResponse → List ℕ
length_text added = decimal (length added.response.body)

abbrev pub response_headers : Option AddedResponse → List NameValue
response_headers None = []
response_headers (Some added) = header_rows added.response.headers

-- the media type of the header fields without its parameters (RFC 9110, 8.3)
abbrev pub content_type_in : List NameValue → List ℕ
content_type_in headers = trimmed (before SEMICOLON (value_named (codes "content-type") headers))

abbrev pub content_type : AddedResponse → List ℕ
content_type added = content_type_in (header_rows added.response.headers)

abbrev pub response_body : Option AddedResponse → List NameValue
response_body None = []
response_body (Some added) = cond added.with_body (single added.response.body) []
