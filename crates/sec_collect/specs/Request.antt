-- The texts of a request.
use Rattle.std.specs.Prelude.{ℕ, ◌+◌, ◌||◌, ◌==◌, Bool, cond, List, [], ◌∷◌, ◌++◌, codes, decimal, take, Option, Some, None}
use Rattle.std.specs.List.{list_any, position_or_len}
use Rattle.web_parts.specs.declared.row.NameValue.{NameValue}
use Rattle.web_parts.specs.declared.transaction.Request.{Request}
use Rattle.web_parts.specs.Pieces.{before}
use Rattle.sec_collect.specs.declared.marks.TheConstants.{SPACE, SLASH, COLON, QUESTION_MARK, LEFT_BRACKET, BACKSLASH, RIGHT_BRACKET}
use Rattle.sec_collect.specs.Row.{value_named}

abbrev pub port_text : Option ℕ → List ℕ
port_text None = []
port_text (Some port) = decimal port

-- `HTTP/` and the version (RFC 9112, 2.3)
abbrev pub protocol_text : List ℕ → List ℕ
protocol_text [] = []
protocol_text (b ∷ version) = codes "HTTP/" ++ b ∷ version

-- the path, and the query after `?` where there is one (RFC 3986, 3)
abbrev pub uri_text : List ℕ → List ℕ → List ℕ
uri_text path [] = path
uri_text path (b ∷ query) = path ++ QUESTION_MARK ∷ b ∷ query

-- method, URI and protocol with a space between (RFC 9112, 3)
abbrev pub line_text : Request → List ℕ
line_text r = r.method ++ (SPACE ∷ (uri_text r.path r.query ++ (SPACE ∷ protocol_text r.version)))

abbrev pub is_slash : ℕ → Bool
is_slash b = b == SLASH || b == BACKSLASH

-- what stands after the last of these: the first byte goes as long as one is left
abbrev pub basename : List ℕ → List ℕ
basename [] = []
basename (b ∷ path) = cond (list_any is_slash (b ∷ path)) (basename path) (b ∷ path)

-- up to the first such byte and with it, or the whole
abbrev pub through : ℕ → List ℕ → List ℕ
through mark text = take (position_or_len (λ b. b == mark) text + 1) text

-- the host of a field `Host` (RFC 9110, 7.2): up to `]` where it begins with `[`, and else up to the colon
abbrev pub host_of : List ℕ → List ℕ
host_of [] = []
host_of (b ∷ value) = cond (b == LEFT_BRACKET) (through RIGHT_BRACKET (b ∷ value)) (before COLON (b ∷ value))

abbrev pub server_name : List NameValue → List ℕ
server_name headers = host_of (value_named (codes "host") headers)
