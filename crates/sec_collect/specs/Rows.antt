-- The rows of each variable (ModSecurity reference manual, "Variables").
use Rattle.std.specs.Prelude.{◌-◌, List, [], ◌++◌, codes, decimal, length, slice_get, Option}
use Rattle.std.specs.Option.{option_map}
use Rattle.sec_ast.specs.declared.variable.Var.{Var}
use Rattle.sec_ast.specs.declared.variable.Var.TheVariants as vars
use Rattle.sec_ast.specs.Settings.{processor_name}
use Rattle.web_parts.specs.declared.row.NameValue.{NameValue}
use Rattle.web_parts.specs.AddressText.{text_of}
use Rattle.web_parts.specs.Arguments.{argument_rows}
use Rattle.web_parts.specs.Cookies.{cookie_rows}
use Rattle.web_parts.specs.Headers.{header_rows}
use Rattle.sec_collect.specs.Row.{single, optional, names_of, size_of}
use Rattle.sec_collect.specs.TransactionView.{TransactionView}
use Rattle.sec_collect.specs.Request.{port_text, protocol_text, uri_text, line_text, basename, server_name}
use Rattle.sec_collect.specs.Body.{chosen_processor, processor_of, left_of, left_length, posted, is_longer, flag_text}
use Rattle.sec_collect.specs.Response.{status_text, response_protocol, length_text, response_headers, content_type, response_body}

-- of the query, of the body, and of both
abbrev pub get_rows : TransactionView → List NameValue
get_rows s = argument_rows s.request.query

abbrev pub post_rows : TransactionView → List NameValue
post_rows s = posted s.request.body s.body

abbrev pub all_arguments : TransactionView → List NameValue
all_arguments s = get_rows s ++ post_rows s

abbrev pub headers : TransactionView → List NameValue
headers s = header_rows s.request.headers

abbrev pub cookies : TransactionView → List NameValue
cookies s = cookie_rows (headers s)

abbrev pub last_matched : TransactionView → Option NameValue
last_matched s = slice_get s.matched (length s.matched - 1)

-- each single variable has one row without a name, or none
unfoldable pub rows_of : Var → TransactionView → List NameValue
rows_of vars.RemoteAddr s = single (text_of s.request.src)
rows_of vars.RemotePort s = single (port_text s.request.src_port)
rows_of vars.ServerAddr s = single (text_of s.request.dst)
rows_of vars.ServerPort s = single (port_text s.request.dst_port)
rows_of vars.ServerName s = single (server_name (headers s))
rows_of vars.UniqueId s = single s.request.id
rows_of vars.RequestMethod s = single s.request.method
rows_of vars.RequestUri s = single (uri_text s.request.path s.request.query)
rows_of vars.RequestUriRaw s = single (uri_text s.request.path s.request.query)
rows_of vars.RequestFilename s = single s.request.path
rows_of vars.RequestBasename s = single (basename s.request.path)
rows_of vars.RequestLine s = single (line_text s.request)
rows_of vars.RequestProtocol s = single (protocol_text s.request.version)
rows_of vars.QueryString s = single s.request.query
rows_of vars.RequestBody s = optional (option_map (left_of s.request.body) s.body)
rows_of vars.RequestBodyLength s = optional (option_map (left_length s.request.body) s.body)
rows_of vars.ReqbodyProcessor s = single (processor_name (processor_of s.body (chosen_processor s)))
rows_of vars.ReqbodyError s = single (codes "0")
rows_of vars.MultipartStrictError s = single (codes "0")
rows_of vars.InboundDataError s = single (flag_text (is_longer s.request.body s.body))
rows_of vars.ArgsCombinedSize s = single (decimal (size_of (all_arguments s)))
rows_of vars.FilesCombinedSize s = single (codes "0")
rows_of vars.ResponseStatus s = optional (option_map status_text s.response)
rows_of vars.ResponseProtocol s = optional (option_map response_protocol s.response)
rows_of vars.ResponseBody s = response_body s.response
rows_of vars.ResponseContentLength s = optional (option_map length_text s.response)
rows_of vars.ResponseContentType s = optional (option_map content_type s.response)
rows_of vars.OutboundDataError s = single (codes "0")
rows_of vars.MatchedVar s = optional (option_map (λ r. r.value) (last_matched s))
rows_of vars.MatchedVarName s = optional (option_map (λ r. r.name) (last_matched s))
rows_of vars.Args s = all_arguments s
rows_of vars.ArgsGet s = get_rows s
rows_of vars.ArgsPost s = post_rows s
rows_of vars.ArgsNames s = names_of (all_arguments s)
rows_of vars.ArgsGetNames s = names_of (get_rows s)
rows_of vars.ArgsPostNames s = names_of (post_rows s)
rows_of vars.RequestHeaders s = headers s
rows_of vars.RequestHeadersNames s = names_of (headers s)
rows_of vars.RequestCookies s = cookies s
rows_of vars.RequestCookiesNames s = names_of (cookies s)
rows_of vars.Files s = []
rows_of vars.FilesNames s = []
rows_of vars.ResponseHeaders s = response_headers s.response
rows_of vars.ResponseHeadersNames s = names_of (response_headers s.response)
rows_of vars.Tx s = s.captured ++ s.tx
rows_of vars.MatchedVars s = s.matched
rows_of vars.MatchedVarsNames s = names_of s.matched
rows_of vars.Xml s = []
