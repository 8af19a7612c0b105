-- How a fault is told.
use Rattle.std.specs.Prelude.{ℕ, List, [], codes}
use Rattle.agent_conf.specs.declared.fault.ConfFault.{ConfFault}
use Rattle.agent_conf.specs.declared.fault.ConfFault.TheVariants as faults

abbrev pub kind_of : ConfFault → List ℕ
kind_of faults.Syntax = codes "Syntax"
kind_of (faults.UnknownKey key) = codes "UnknownKey"
kind_of (faults.MissingKey key) = codes "MissingKey"
kind_of (faults.BadValue key) = codes "BadValue"
kind_of faults.NoApp = codes "NoApp"
kind_of (faults.DoubleApp name) = codes "DoubleApp"
kind_of (faults.UnknownDefault name) = codes "UnknownDefault"
kind_of faults.NoMemory = codes "NoMemory"

abbrev pub word_of : ConfFault → List ℕ
word_of (faults.UnknownKey key) = key
word_of (faults.MissingKey key) = key
word_of (faults.BadValue key) = key
word_of (faults.DoubleApp name) = name
word_of (faults.UnknownDefault name) = name
word_of other = []
