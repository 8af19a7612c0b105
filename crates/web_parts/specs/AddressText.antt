-- An address as text.
use Rattle.std.specs.Prelude.{ℕ, List, []}
use Rattle.std.specs.Net.Addr.{segments_of}
use Rattle.std.specs.Net.Text.{ipv4_text, ipv6_text}
use Rattle.web_parts.specs.declared.address.Address.{Address}
use Rattle.web_parts.specs.declared.address.Address.TheVariants as addresses

-- dotted decimal, or RFC 5952
abbrev pub text_of : Address → List ℕ
text_of addresses.None = []
text_of (addresses.V4 octets) = ipv4_text octets
text_of (addresses.V6 octets) = ipv6_text (segments_of octets)
