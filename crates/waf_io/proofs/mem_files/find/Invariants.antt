use Rattle.std.proofs.Common.{◌≡◌, drop}
use Rattle.waf_io.specs.Files.{content_of}
use Rattle.waf_io.proofs.mem_files.find.Given as goal

abbrev pub invariant-loop-file : goal.invariant-loop-file
invariant-loop-file l = content_of (drop l.file-index l.files) l.name ≡ content_of l.files l.name
