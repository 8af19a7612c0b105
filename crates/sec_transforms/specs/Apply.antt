-- What each transformation gives, and a chain of them.
use Rattle.std.specs.Prelude.{ℕ, List, [], ◌∷◌, take, map, filter, length, not, decimal}
use Rattle.std.specs.Char.{to_ascii_lowercase, to_ascii_uppercase}
use Rattle.base64.specs.Engines.{standard}
use Rattle.base64.specs.GeneralPurpose.{encode_of}
use Rattle.hex.specs.Hex.{encode_lower}
use Rattle.md5.specs.Md5.{md5}
use Rattle.sha1.specs.Sha1.{sha1}
use Rattle.percent_encoding.specs.Percent.{percent_decode}
use Rattle.sec_decoders.specs.Pieces.{pieces}
use Rattle.sec_decoders.specs.UrlUni.{url_uni}
use Rattle.sec_decoders.specs.Entities.{entities}
use Rattle.sec_decoders.specs.JavaScript.{js}
use Rattle.sec_decoders.specs.Css.{css}
use Rattle.sec_decoders.specs.EscapeSequences.{escape_sequences}
use Rattle.sec_decoders.specs.Unicode.{unicode}
use Rattle.sec_decoders.specs.declared.pieces.TheConstants.{LIMIT}
use Rattle.sec_transforms.specs.Alphabets.{is_not_null, null_as_space, plus_as_space, backslash_as_slash}
use Rattle.sec_transforms.specs.CmdLine.{cmd_line}
use Rattle.sec_transforms.specs.Comments.{comments, comment_marks}
use Rattle.sec_transforms.specs.Encodings.{bytes_of_hex, letters_of, group}
use Rattle.sec_transforms.specs.NormalizePath.{path}
use Rattle.sec_transforms.specs.Whitespace.{is_wide, run, trimmed_left, trimmed_right}
use Rattle.sec_ast.specs.declared.transform.Transform as names
use Rattle.sec_ast.specs.declared.transform.Transform.TheVariants.{Base64Decode, Base64Encode, CmdLine, CompressWhitespace, CssDecode, EscapeSeqDecode, HexDecode, HexEncode, HtmlEntityDecode, JsDecode, Length, Lowercase, Uppercase, Md5, Sha1, NormalizePath, NormalizePathWin, RemoveCommentsChar, RemoveNulls, RemoveWhitespace, ReplaceComments, ReplaceNulls, Trim, TrimLeft, TrimRight, UrlDecode, UrlDecodeUni, Utf8ToUnicode}

-- before the cut
unfoldable pub whole : names.Transform → List ℕ → List ℕ
whole Base64Decode value = pieces group 0 (letters_of value)
whole Base64Encode value = encode_of standard value
whole CmdLine value = cmd_line value
whole CompressWhitespace value = pieces run 0 value
whole CssDecode value = pieces css 0 value
whole EscapeSeqDecode value = pieces escape_sequences 0 value
whole HexDecode value = bytes_of_hex value
whole HexEncode value = encode_lower value
whole HtmlEntityDecode value = pieces entities 0 value
whole JsDecode value = pieces js 0 value
whole Length value = decimal (length value)
whole Lowercase value = map to_ascii_lowercase value
whole Uppercase value = map to_ascii_uppercase value
whole Md5 value = md5 value
whole Sha1 value = sha1 value
whole NormalizePath value = path value
whole NormalizePathWin value = path (map backslash_as_slash value)
whole RemoveCommentsChar value = pieces comment_marks 0 value
whole RemoveNulls value = filter is_not_null value
whole RemoveWhitespace value = filter (λ c. not (is_wide c)) value
whole ReplaceComments value = pieces comments 0 value
whole ReplaceNulls value = map null_as_space value
whole Trim value = trimmed_right (trimmed_left value)
whole TrimLeft value = trimmed_left value
whole TrimRight value = trimmed_right value
whole UrlDecode value = percent_decode (map plus_as_space value)
whole UrlDecodeUni value = pieces url_uni 0 value
whole Utf8ToUnicode value = pieces unicode 0 value

-- the first `LIMIT` bytes of it
abbrev pub transformed : names.Transform → List ℕ → List ℕ
transformed name value = take LIMIT (whole name value)

-- from left to right
unfoldable pub chained : List names.Transform → List ℕ → List ℕ
chained [] value = value
chained (name ∷ rest) value = chained rest (transformed name value)
