-- A frame whose payload is still borrowed.
use Rattle.spop_frame.specs.declared.frame.Frame.{Frame}
use Rattle.spop_frame.specs.declared.header.Header.{Header}

abbrev pub frame_seen : Header → Frame
frame_seen h = record { kind = h.kind; flags = h.flags; stream = h.stream; frame = h.frame; payload = h.payload.now }
