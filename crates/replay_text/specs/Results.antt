-- The lines that a step of a replay prints.
use Rattle.std.specs.Prelude.{ℕ, List, [], ◌∷◌, ◌++◌, codes, flat_map, Option, Some, None}
use Rattle.std.specs.Fmt.{decimal}
use Rattle.hex.specs.Hex.{encode_lower}
use Rattle.replay_text.specs.declared.command.TheConstants.{SPACE}
use Rattle.replay_text.specs.declared.script.TheConstants.{LINE_FEED}
use Rattle.conn_core.specs.declared.need.Closing.{Closing}
use Rattle.conn_core.specs.declared.need.Closing.TheVariants as closings
use Rattle.sec_ast.specs.declared.verdict.LogLine.{LogLine}
use Rattle.conn_core.specs.declared.seen.Seen.{Seen}
use Rattle.conn_core.specs.declared.seen.Seen.TheVariants as seens

-- a word behind a space
abbrev pub behind_space : List ℕ → List ℕ
behind_space word = SPACE ∷ word

-- a name, the other words behind it, and a line feed
abbrev pub line : List ℕ → List (List ℕ) → List ℕ
line name words = name ++ flat_map behind_space words ++ LINE_FEED ∷ []

-- pairs of hexadecimal digits in lower case, or a hyphen for no bytes
abbrev pub digits_of : List ℕ → List ℕ
digits_of [] = codes "-"
digits_of (b ∷ bytes) = encode_lower (b ∷ bytes)

-- the number of a connection, or a hyphen where there is none
abbrev pub connection_text : Option ℕ → List ℕ
connection_text None = codes "-"
connection_text (Some conn) = decimal conn

abbrev pub log_line : Option ℕ → LogLine → List ℕ
log_line conn log =
    line (codes "log") (connection_text conn ∷ decimal log.rule ∷ digits_of log.msg ∷ digits_of log.detail ∷ [])

abbrev pub closing_words : Closing → List (List ℕ)
closing_words closings.Done = codes "done" ∷ []
closing_words closings.CutShort = codes "cut" ∷ []
closing_words (closings.Ended status) = codes "status" ∷ decimal status ∷ []
closing_words closings.ReadFault = codes "readfault" ∷ []
closing_words closings.WriteFault = codes "writefault" ∷ []
closing_words closings.Spent = codes "spent" ∷ []

-- what is printed of a step on this connection, or on this shard
abbrev pub seen_text : Option ℕ → ℕ → Seen → List ℕ
seen_text conn shard seens.Nothing = []
seen_text conn shard (seens.Lines lines) = flat_map (log_line conn) lines
seen_text conn shard (seens.Out bytes) = line (codes "out") (connection_text conn ∷ digits_of bytes ∷ [])
seen_text conn shard (seens.Closed how) = line (codes "closed") (connection_text conn ∷ closing_words how)
seen_text conn shard (seens.Expired ticket lines) =
    line (codes "expired") (decimal shard ∷ decimal ticket ∷ []) ++ flat_map (log_line None) lines
seen_text conn shard seens.NothingDue = line (codes "notdue") (decimal shard ∷ [])
seen_text conn shard (seens.Published generation) = line (codes "published") (decimal generation ∷ [])
seen_text conn shard seens.Worn = line (codes "worn") []
seen_text conn shard (seens.Counts counts) =
    line (codes "stats") (codes "running" ∷ decimal counts.running ∷ codes "parked" ∷ decimal counts.parked ∷ [])
