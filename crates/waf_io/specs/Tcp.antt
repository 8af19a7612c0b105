-- Doors of a TCP listener.
use Rattle.std.specs.Prelude.{◌≡◌, false}
use Rattle.waf_io.specs.declared.tcp_door.TcpDoor.{TcpDoor}

-- a door that was not used
abbrev pub IsNewTcp : TcpDoor → Type 0
IsNewTcp door = (door.is_out ≡ false) × (door.faults ≡ 0) × (door.closings ≡ 0)
