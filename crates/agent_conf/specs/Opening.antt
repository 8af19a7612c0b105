-- What reading a document answers.
use Rattle.std.specs.Prelude.{◌≡◌, Option, Some, None, Result, Ok, Err, String}
use Rattle.std.specs.BTreeMap.{BTreeMap}
use Rattle.std.specs.declared.alloc.Global.{Global}
use Rattle.toml.specs.Data.{Members}
use Rattle.toml.specs.View.{table_view}
use Rattle.toml.specs.declared.value.Value.{Value}
use Rattle.agent_conf.specs.declared.fault.ConfFault.{ConfFault}
use Rattle.agent_conf.specs.declared.fault.ConfFault.TheVariants as faults

abbrev pub IsDocument : Result (BTreeMap (String Global) Value) ConfFault → Option Members → Type 0
IsDocument (Ok top) wanted = wanted ≡ Some (table_view top)
IsDocument (Err faults.Syntax) wanted = wanted ≡ None
IsDocument (Err faults.NoMemory) wanted = Unit {0}
IsDocument (Err other) wanted = ⊥
