use Rattle.std.proofs.Common.{◌≡◌, flat_map, take}
use Rattle.agent_main.specs.Turns.{entry_text}
use Rattle.agent_main.proofs.entry.entries_text.Given as goal

abbrev pub invariant-loop-entry : goal.invariant-loop-entry
invariant-loop-entry l = l.text ≡ flat_map (entry_text l.name) (take l.entry-index l.entries)
