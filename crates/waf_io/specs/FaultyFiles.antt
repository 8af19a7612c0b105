-- Files in memory whose readings may fail.
use Rattle.std.specs.Prelude.{List}
use Rattle.waf_io.specs.Schedule.{Failing}
use Rattle.waf_io.specs.declared.mem_files.MemFile.{MemFile}

pub record FaultyFiles : Type 0 where
  pub files : List MemFile
  pub schedule : Failing
