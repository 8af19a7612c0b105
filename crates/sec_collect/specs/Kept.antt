-- What is kept ready of a transaction.
use Rattle.std.specs.Prelude.{◌≡◌, ◌+◌, decimal, Option}
use Rattle.std.specs.Option.{option_map}
use Rattle.web_parts.specs.declared.transaction.Request.{Request}
use Rattle.web_parts.specs.AddressText.{text_of}
use Rattle.web_parts.specs.Arguments.{argument_rows}
use Rattle.web_parts.specs.Cookies.{cookie_rows}
use Rattle.web_parts.specs.Headers.{header_rows}
use Rattle.sec_collect.specs.declared.parts.OpenedBody.{OpenedBody}
use Rattle.sec_collect.specs.declared.parts.AddedResponse.{AddedResponse}
use Rattle.sec_collect.specs.declared.address_texts.AddressTexts.{AddressTexts}
use Rattle.sec_collect.specs.declared.line_texts.LineTexts.{LineTexts}
use Rattle.sec_collect.specs.declared.request_rows.RequestRows.{RequestRows}
use Rattle.sec_collect.specs.declared.body_rows.BodyRows.{BodyRows}
use Rattle.sec_collect.specs.declared.response_rows.ResponseRows.{ResponseRows}
use Rattle.sec_collect.specs.declared.kept_rows.KeptRows.{KeptRows}
use Rattle.sec_collect.specs.declared.vars.Vars.TheInside.{Inside}
use Rattle.sec_collect.specs.Row.{size_of}
use Rattle.sec_collect.specs.TransactionView.{TransactionView}
use Rattle.sec_collect.specs.Request.{basename, line_text, port_text, protocol_text, server_name, uri_text}
use Rattle.sec_collect.specs.Body.{is_form, left_length, posted}
use Rattle.sec_collect.specs.Response.{content_type, length_text, response_headers, response_protocol, status_text}

abbrev pub address_texts : Request → AddressTexts
address_texts r = record {
  source = text_of r.src;
  source_port = port_text r.src_port;
  destination = text_of r.dst;
  destination_port = port_text r.dst_port;
}

abbrev pub line_texts : Request → LineTexts
line_texts r = record {
  uri = uri_text r.path r.query;
  basename = basename r.path;
  protocol = protocol_text r.version;
  line = line_text r;
}

abbrev pub request_rows : Request → RequestRows
request_rows r = record {
  headers = header_rows r.headers;
  cookies = cookie_rows (header_rows r.headers);
  query_arguments = argument_rows r.query;
  is_form = is_form (header_rows r.headers);
  server_name = server_name (header_rows r.headers);
  addresses = address_texts r;
  line = line_texts r;
}

abbrev pub body_rows : Request → Option OpenedBody → BodyRows
body_rows r body = record {
  posted = posted r.body body;
  length = option_map (left_length r.body) body;
  arguments_size = decimal (size_of (argument_rows r.query) + size_of (posted r.body body));
}

abbrev pub response_rows : Option AddedResponse → ResponseRows
response_rows response = record {
  status = option_map status_text response;
  protocol = option_map response_protocol response;
  length = option_map length_text response;
  media_type = option_map content_type response;
  headers = response_headers response;
}

abbrev pub kept_rows : Request → Option OpenedBody → Option AddedResponse → KeptRows
kept_rows r body response = record {
  request = request_rows r;
  body = body_rows r body;
  response = response_rows response;
}

abbrev pub vars_view : Inside → TransactionView
vars_view v = record {
  request = v.request;
  processor = v.processor;
  body = v.body;
  response = v.response;
  tx = v.tx;
  captured = v.captured;
  matched = v.matched;
}

abbrev pub AreKept : Inside → Type 0
AreKept v = v.kept ≡ kept_rows v.request v.body v.response
