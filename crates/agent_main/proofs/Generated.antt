-- The counts of a run over the script that was made.
use Rattle.std.proofs.Common.{◌≡◌, ℕ, List, Option, Some, Result, Ok, ap, subst, sym}
use Rattle.sec_ast.specs.declared.listing.Listing.{Listing}
use Rattle.sec_read.specs.FileWords.{Named}
use Rattle.shelf.specs.declared.apps.Apps.{Apps}
use Rattle.waf_io.specs.Files.{content_of}
use Rattle.waf_io.specs.declared.mem_files.MemFile.{MemFile}
use Rattle.workload.specs.Workload.{script}
use Rattle.workload.specs.declared.world.TheConstants.{RULES_NAME}
use Rattle.world_core.specs.Standing.{Shared}
use Rattle.agent_main.specs.declared.entry.Entry.{Entry}
use Rattle.agent_main.specs.declared.playing.Limits.{Limits}
use Rattle.agent_main.specs.Generate.{AreOnly, IsGenerated, built_in, built_in_files, limits}
use Rattle.agent_main.specs.Listings.{listing_under}
use Rattle.agent_main.specs.Summary.{summary}
use Rattle.agent_main.specs.Turns.{Command, Plays}

pub counted : (seed count : ℕ) (files : List MemFile) (content : Option Named) (rules : Listing) (apps : Apps Shared) (commands : List Command) (within : Limits) (entries : List Entry) (text : List ℕ)
    → files ≡ built_in_files → content ≡ Some (content_of files) → listing_under (content_of files) RULES_NAME.now ≡ Ok rules → AreOnly rules apps → commands ≡ script seed count → within ≡ limits
    → Plays content RULES_NAME.now 0 0 within apps commands entries → text ≡ summary count entries
    → IsGenerated seed count (listing_under built_in RULES_NAME.now) (Ok text)
counted seed count files content rules apps commands within entries text same stays read only made lim plays is =
    let listed = subst (λ (fs : List MemFile). listing_under (content_of fs) RULES_NAME.now ≡ Ok rules) same read in
    let plays = subst (λ (c : Option Named). Plays c RULES_NAME.now 0 0 within apps commands entries) stays plays in
    let plays = subst (λ (fs : List MemFile). Plays (Some (content_of fs)) RULES_NAME.now 0 0 within apps commands entries) same plays in
    let plays = subst (λ (l : List Command). Plays (Some built_in) RULES_NAME.now 0 0 within apps l entries) made plays in
    let plays = subst (λ (l : Limits). Plays (Some built_in) RULES_NAME.now 0 0 l apps (script seed count) entries) lim plays in
    subst (λ (r : Result Listing (List ℕ)). IsGenerated seed count r (Ok text)) (sym listed) (apps, only, entries, plays, ap Ok is)
