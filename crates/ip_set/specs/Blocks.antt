-- Addresses, blocks of them, and the words that name both.
use Rattle.std.specs.Prelude.{ℕ, ◌≡◌, ◌≢◌, ◌-◌, ◌/◌, ◌^◌, ◌<◌, ◌≤◌, ◌⊎◌, List, [], ◌∷◌, ◌++◌, All, Any, decimal, length, get_or}
use Rattle.std.specs.Net.Addr.{ipv4_bits, ipv6_bits}
use Rattle.std.specs.Net.Grammar.{IsIpText}
use Rattle.std.specs.declared.net.ip_addr.IpAddr.{IpAddr}
use Rattle.std.specs.declared.net.ip_addr.IpAddr.TheVariants.{V4, V6}
use Rattle.ip_set.specs.declared.block.Block as block
use Rattle.ip_set.specs.declared.block.TheConstants.{IPV4_BITS, IPV6_BITS}
use Rattle.ip_set.specs.declared.characters.TheConstants.{PLUS, SLASH, ZERO}

abbrev pub width : IpAddr → ℕ
width (V4 a) = IPV4_BITS
width (V6 a) = IPV6_BITS

-- an address; or, where the word is none, an address, `/` and a number of at most its width
abbrev pub IsWord : List ℕ → block.Block → Type 0
IsWord word b = (IsIpText word b.address × (b.bits ≡ width b.address))
    ⊎ (((ip : IpAddr) → ¬ IsIpText word ip)
    × (address : List ℕ) × (word ≡ address ++ SLASH ∷ decimal b.bits) × IsIpText address b.address
    × (b.bits ≤ width b.address))

-- the first bits of both, as many as n of w, agree
abbrev pub AgreesIn : ℕ → ℕ → ℕ → ℕ → Type 0
AgreesIn w n a b = a / 2 ^ (w - n) ≡ b / 2 ^ (w - n)

-- the address has the version and the first n bits of the other
abbrev pub CoversAt : IpAddr → ℕ → IpAddr → Type 0
CoversAt (V4 a) n (V4 b) = AgreesIn IPV4_BITS n (ipv4_bits a) (ipv4_bits b)
CoversAt (V6 a) n (V6 b) = AgreesIn IPV6_BITS n (ipv6_bits a) (ipv6_bits b)
CoversAt (V4 a) n (V6 b) = ⊥
CoversAt (V6 a) n (V4 b) = ⊥

abbrev pub Covers : block.Block → IpAddr → Type 0
Covers b ip = CoversAt b.address b.bits ip

-- the text is an address in one of the blocks
abbrev pub IsMember : List block.Block → List ℕ → Type 0
IsMember blocks text = (ip : IpAddr) × IsIpText text ip × Any (λ b. Covers b ip) blocks

-- the text is an address that one of the words covers
abbrev pub IsIn : List (List ℕ) → List ℕ → Type 0
IsIn words text = (ip : IpAddr) × IsIpText text ip × Any (λ word. (b : block.Block) × IsWord word b × Covers b ip) words

-- no byte is a slash
abbrev pub HasNoSlash : List ℕ → Type 0
HasNoSlash text = All (λ c. c ≢ SLASH) text

-- the word at the place names no block, and each before it does
abbrev pub IsFirstBad : List (List ℕ) → ℕ → Type 0
IsFirstBad words at = (at < length words) × ((b : block.Block) → ¬ IsWord (get_or words at []) b)
    × ((k : ℕ) → k < at → (b : block.Block) × IsWord (get_or words k []) b)

abbrev pub HasPlainFront : List ℕ → Type 0
HasPlainFront [] = Unit {0}
HasPlainFront (c ∷ []) = c ≢ PLUS
HasPlainFront (c ∷ d ∷ rest) = (c ≢ PLUS) × (c ≢ ZERO)
