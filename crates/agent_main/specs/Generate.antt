-- What `generate` prints: the counts of a run over a script that it makes.
use Rattle.std.specs.Prelude.{◌≡◌, ◌⊎◌, ℕ, true, List, [], ◌∷◌, map, Option, Some, Result, Ok, Err}
use Rattle.std.specs.Arc.{arc_value}
use Rattle.agent_conf.specs.Seen.{app_seen}
use Rattle.sec_ast.specs.declared.listing.Listing.{Listing}
use Rattle.sec_read.specs.FileWords.{Named}
use Rattle.shelf.specs.declared.apps.Apps.{Apps}
use Rattle.waf_io.specs.Files.{content_of}
use Rattle.waf_io.specs.declared.mem_files.MemFile.{MemFile}
use Rattle.workload.specs.declared.commands.TheConstants.{SHARDS}
use Rattle.workload.specs.declared.world.TheConstants.{RULES, RULES_NAME}
use Rattle.workload.specs.Workload.{script}
use Rattle.world_core.specs.Standing.{Shared}
use Rattle.agent_main.specs.declared.entry.Entry.{Entry}
use Rattle.reports.specs.declared.faults.CommandFault as command
use Rattle.reports.specs.declared.faults.CommandFault.TheVariants as faults
use Rattle.agent_main.specs.declared.generate.TheConstants.{CAPACITY, LIFE, SIZE}
use Rattle.agent_main.specs.declared.playing.Limits.{Limits}
use Rattle.agent_main.specs.Listings.{listing_under}
use Rattle.agent_main.specs.Replay.{Told}
use Rattle.reports.specs.Report.{OutOfMemory, Reported}
use Rattle.agent_main.specs.Summary.{summary}
use Rattle.agent_main.specs.Turns.{Plays}

-- the one file, that of the rules
abbrev pub built_in_files : List MemFile
built_in_files = record { name = RULES_NAME.now; content = RULES.now } ∷ []

abbrev pub built_in : Named
built_in = content_of built_in_files

abbrev pub limits : Limits
limits = record { size = SIZE; shards = SHARDS; capacity = CAPACITY }

-- one application with these rules, whose name is empty and which serves for every other
pub record AreOnly (rules : Listing) (apps : Apps Shared) : Type 0 where
  pub list : map (app_seen arc_value) apps.list
      ≡ record { name = []; rules = rules; settings = record { responses = true; life = LIFE } } ∷ []
  pub fallback : apps.fallback ≡ Some 0

-- the counts of a run over the script, or the line of a fault in the rules
abbrev pub IsGenerated : ℕ → ℕ → Result Listing (List ℕ) → Told → Type 0
IsGenerated seed count (Ok rules) told = (apps : Apps Shared) × AreOnly rules apps × (entries : List Entry)
    × Plays (Some built_in) RULES_NAME.now 0 0 limits apps (script seed count) entries
    × (told ≡ Ok (summary count entries))
IsGenerated seed count (Err line) told = told ≡ Err line

-- a read can't fail, and no memory says nothing
abbrev pub TellsCounts : ℕ → ℕ → Result (List ℕ) command.CommandFault → Type 0
TellsCounts seed count (Ok text) = IsGenerated seed count (listing_under built_in RULES_NAME.now) (Ok text)
TellsCounts seed count (Err (faults.Line line)) =
    IsGenerated seed count (listing_under built_in RULES_NAME.now) (Err line)
TellsCounts seed count (Err faults.ReadFault) = ⊥
TellsCounts seed count (Err faults.NoMemory) = Unit {0}

-- it was reported; nothing was where memory ran out
abbrev pub Generated : ℕ → ℕ → ℕ → Option (List ℕ) → Option (List ℕ) → Type 0
Generated result seed count old new =
    ((told : Told) × IsGenerated seed count (listing_under built_in RULES_NAME.now) told × Reported result told old new)
    ⊎ OutOfMemory result old new
