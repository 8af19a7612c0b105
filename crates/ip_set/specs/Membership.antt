-- The block that a word names, and membership, as functions that compute.
use Rattle.std.specs.Prelude.{ℕ, ◌+◌, ◌-◌, ◌/◌, ◌^◌, Bool, false, ◌==◌, nat_le, List, [], ◌∷◌, decimal, Option, Some, None, bytes_eq, if◌then◌else◌}
use Rattle.std.specs.List.{find, list_any, range_with_len}
use Rattle.std.specs.Net.Addr.{ipv4_bits, ipv6_bits}
use Rattle.std.specs.Net.Reader.{read_ipv4, read_ipv6, whole_value}
use Rattle.std.specs.declared.net.ip_addr.IpAddr.{IpAddr}
use Rattle.std.specs.declared.net.ip_addr.IpAddr.TheVariants.{V4, V6}
use Rattle.ip_set.specs.declared.block.Block as block
use Rattle.ip_set.specs.declared.block.TheConstants.{IPV4_BITS, IPV6_BITS}
use Rattle.ip_set.specs.declared.characters.TheConstants.{SLASH}
use Rattle.ip_set.specs.Blocks.{width}

abbrev pub ip_from : Option (List ℕ) → Option (List ℕ) → Option IpAddr
ip_from (Some octets) six = Some (V4 (record { octets = octets }))
ip_from None (Some segments) = Some (V6 (record { segments = segments }))
ip_from None None = None

-- the address that the whole text is, as std reads one
unfoldable pub ip_of : List ℕ → Option IpAddr
ip_of text = ip_from (whole_value (read_ipv4 text)) (whole_value (read_ipv6 text))

abbrev pub agree_in : ℕ → ℕ → ℕ → ℕ → Bool
agree_in w n a b = a / 2 ^ (w - n) == b / 2 ^ (w - n)

-- the address has the version and the first n bits of the other
unfoldable pub covers_at : IpAddr → ℕ → IpAddr → Bool
covers_at (V4 a) n (V4 b) = agree_in IPV4_BITS n (ipv4_bits a) (ipv4_bits b)
covers_at (V6 a) n (V6 b) = agree_in IPV6_BITS n (ipv6_bits a) (ipv6_bits b)
covers_at (V4 a) n (V6 b) = false
covers_at (V6 a) n (V4 b) = false

-- ---- the block that a word names

-- the text before the last slash, and that after it
abbrev pub slash_before : ℕ → List ℕ → Option (List ℕ × List ℕ) → Option (List ℕ × List ℕ)
slash_before c rest (Some x) = Some (c ∷ x.0, x.1)
slash_before c rest None = if c == SLASH then Some ([], rest) else None

abbrev pub last_slash : List ℕ → Option (List ℕ × List ℕ)
last_slash [] = None
last_slash (c ∷ rest) = slash_before c rest (last_slash rest)

-- a number of bits that an address may have, in decimal digits, without a sign or a leading zero
unfoldable pub bits_of : List ℕ → Option ℕ
bits_of text = find (λ n. bytes_eq text (decimal n)) (range_with_len 0 (IPV6_BITS + 1))

-- so many bits of an address, where its version has them
abbrev pub block_with : Option IpAddr → Option ℕ → Option block.Block
block_with None bits = None
block_with (Some a) None = None
block_with (Some a) (Some n) = if nat_le n (width a) then Some (record { address = a; bits = n }) else None

abbrev pub cut_block : Option (List ℕ × List ℕ) → Option block.Block
cut_block None = None
cut_block (Some x) = block_with (ip_of x.0) (bits_of x.1)

abbrev pub whole_or_cut : Option IpAddr → List ℕ → Option block.Block
whole_or_cut (Some a) word = Some (record { address = a; bits = width a })
whole_or_cut None word = cut_block (last_slash word)

-- an address is a block of one; else an address, `/` and a number of bits
unfoldable pub block_of : List ℕ → Option block.Block
block_of word = whole_or_cut (ip_of word) word

-- ---- membership

abbrev pub block_covers : Option block.Block → IpAddr → Bool
block_covers None ip = false
block_covers (Some b) ip = covers_at b.address b.bits ip

-- the word names a block that covers the address
abbrev pub word_covers : IpAddr → List ℕ → Bool
word_covers ip word = block_covers (block_of word) ip

abbrev pub any_covers : {A : Type 0} → (IpAddr → A → Bool) → Option IpAddr → List A → Bool
any_covers test None xs = false
any_covers test (Some ip) xs = list_any (test ip) xs

-- the text is an address that one of the words covers
unfoldable pub is_in : List (List ℕ) → List ℕ → Bool
is_in words text = any_covers word_covers (ip_of text) words

-- the text is an address in one of the blocks
unfoldable pub is_member : List block.Block → List ℕ → Bool
is_member blocks text = any_covers (λ ip b. covers_at b.address b.bits ip) (ip_of text) blocks
