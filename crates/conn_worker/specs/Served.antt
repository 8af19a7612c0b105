-- What a connection's worker has done when it is over.
use Rattle.std.specs.Prelude.{◌≡◌, ℕ, Option}
use Rattle.spop_frame.specs.declared.status.TheConstants.{NO_MEMORY}
use Rattle.conn_core.specs.declared.need.Closing as closing
use Rattle.conn_core.specs.declared.need.Closing.TheVariants as closings
use Rattle.conn_loop.specs.declared.connection.ConnEnd as end
use Rattle.conn_loop.specs.declared.connection.ConnEnd.TheVariants as ends
use Rattle.conn_loop.specs.Ends as over
use Rattle.conn_loop.specs.Ends.{Around, around}
use Rattle.conn_worker.specs.Desk.{Desk, Passes, desk_of}
use Rattle.conn_worker.specs.Serving.{Serves}

-- how a connection closed, by the end of the loop over its needs
abbrev pub closing_of : end.ConnEnd → closing.Closing
closing_of (ends.Closed how) = how
closing_of ends.Spent = closings.Spent
closing_of ends.ReadFault = closings.ReadFault
closing_of ends.WriteFault = closings.WriteFault
closing_of ends.NoMemory = closings.Ended NO_MEMORY

-- the lists that the passes own, in the place of the passes
abbrev pub listed : Option ℕ → ℕ → Around Passes → Around Desk
listed told moment a = around (desk_of told moment a.desk) a.left a.ends a.held

-- A connection of an agent that offers frames of that size was served, with a clock that shows that moment where it is
-- told. All entries that are new in the passes' lists are those of its needs, in their order.
pub record Served (told : Option ℕ) (size : ℕ) (how : closing.Closing) (old new : Around Passes) : Type 0 where
  pub end : end.ConnEnd
  pub closes : how ≡ closing_of end
  pub last : ℕ  -- the moment of its last Expire, or 0
  pub serves : over.Serves end Serves size (listed told 0 old) (listed told last new)
