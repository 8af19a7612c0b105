-- What a run of `once` comes to.
use Rattle.std.specs.Prelude.{◌≡◌, ℕ, ◌==◌, List, Option, if◌then◌else◌}
use Rattle.spop_frame.specs.declared.status.TheConstants.{NO_MEMORY}
use Rattle.conn_core.specs.declared.need.Closing.TheVariants as closings
use Rattle.conn_loop.specs.declared.connection.ConnEnd as end
use Rattle.conn_loop.specs.declared.connection.ConnEnd.TheVariants as ends
use Rattle.conn_loop.specs.Ends.{around, Serves}
use Rattle.sec_ast.specs.declared.listing.Listing.{Listing}
use Rattle.reports.specs.declared.exit_status.TheConstants.{DONE, UNFINISHED, READ_FAULT, WRITE_FAULT, OUT_OF_MEMORY}
use Rattle.agent_main.specs.declared.once.TheConstants.{OWN_SIZE}
use Rattle.agent_main.specs.Judge.{Desk, opening, serves}

-- the exit status for the end of a connection
abbrev pub status_of : end.ConnEnd → ℕ
status_of (ends.Closed closings.Done) = DONE
status_of (ends.Closed (closings.Ended status)) = if status == NO_MEMORY then OUT_OF_MEMORY else UNFINISHED
status_of (ends.Closed other) = UNFINISHED
status_of ends.Spent = UNFINISHED
status_of ends.ReadFault = READ_FAULT
status_of ends.WriteFault = WRITE_FAULT
status_of ends.NoMemory = OUT_OF_MEMORY

-- The status is that of an end of the connection under these rules and with an empty table at first, over an input that
-- had `first` left and has `left`, where it tells that, and whose count of ends went from `before` to `now`: what was
-- written is what its trace writes, of which each need was met by a step of `serves`. One for which there was no memory
-- has read and written nothing.
abbrev pub Exits : ℕ → Listing → Option (List ℕ) → Option (List ℕ) → ℕ → ℕ → Option (List ℕ) → Option (List ℕ) → Type 0
Exits result rules first left before now old new =
    (how : end.ConnEnd) × (last : Desk) × (result ≡ status_of how)
    × Serves how serves OWN_SIZE (around (opening rules) first before old) (around last left now new)
