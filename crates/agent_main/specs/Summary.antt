-- The counts that `generate` prints of what a run showed.
use Rattle.std.specs.Prelude.{ℕ, ◌-◌, ◌==◌, List, [], ◌++◌, count_by, min, codes, decimal}
use Rattle.hall_core.specs.Kept.{total}
use Rattle.conn_core.specs.declared.seen.Seen.TheVariants as seens
use Rattle.sec_ast.specs.declared.verdict.LogLine.{LogLine}
use Rattle.agent_main.specs.declared.entry.Entry.{Entry}
use Rattle.agent_main.specs.declared.entry.Shown as showing
use Rattle.agent_main.specs.declared.entry.Shown.TheVariants as showns
use Rattle.agent_main.specs.declared.generate.TheConstants.{REQUEST_RULE, RESPONSE_RULE, PASSED_RULE}
use Rattle.workload.specs.declared.commands.TheConstants.{CONNECTIONS}

-- no count is greater
abbrev pub last_count : ℕ
last_count = 18446744073709551615

-- what was logged
abbrev pub lines_in : showing.Shown → List LogLine
lines_in (showns.Step (seens.Lines lines)) = lines
lines_in (showns.Step (seens.Expired ticket lines)) = lines
lines_in other = []

-- the lines of a rule among what was shown
unfoldable pub logged_in : ℕ → Entry → ℕ
logged_in rule entry = count_by (λ line. line.rule == rule) (lines_in entry.shown)

-- 1 for what is such a thing
abbrev pub expired : showing.Shown → ℕ
expired (showns.Step (seens.Expired ticket lines)) = 1
expired other = 0

unfoldable pub expired_in : Entry → ℕ
expired_in entry = expired entry.shown

abbrev pub written : showing.Shown → ℕ
written (showns.Step (seens.Out bytes)) = 1
written other = 0

unfoldable pub written_in : Entry → ℕ
written_in entry = written entry.shown

-- over all
unfoldable pub sum_of : (Entry → ℕ) → List Entry → ℕ
sum_of f entries = min (total f entries) last_count

-- a name and a count on a line
abbrev pub count_line : List ℕ → ℕ → List ℕ
count_line name count = name ++ codes " " ++ decimal count ++ codes "\n"

-- Of so many transactions. A response that is judged logs one line of its rule, so the others found no parked request;
-- of what is written, each connection begins with a HELLO, and the rest are ACKs.
unfoldable pub summary : ℕ → List Entry → List ℕ
summary count entries =
    count_line (codes "transactions") count
    ++ count_line (codes "requests denied") (sum_of (logged_in REQUEST_RULE) entries)
    ++ count_line (codes "responses denied") (sum_of (logged_in RESPONSE_RULE) entries)
    ++ count_line (codes "not parked") (count - sum_of (logged_in PASSED_RULE) entries)
    ++ count_line (codes "expired") (sum_of expired_in entries)
    ++ count_line (codes "acks") (sum_of written_in entries - CONNECTIONS)
