use Rattle.std.proofs.Common.{◌≡◌, Ok}
use Rattle.agent_main.specs.Listings.{listing_under}
use Rattle.agent_main.proofs.Tables.{exits_before}
use Rattle.agent_main.proofs.once.once.Goals as goal

pub returns-in-Err-NoMemory-clause-served : goal.returns-in-Err-NoMemory-clause-served
returns-in-Err-NoMemory-clause-served g c =
    exits_before (g.F.Files.content c.args.files.now) (λ told rules. listing_under told c.args.name.now ≡ Ok rules) _ (g.S.Source.left c.args.input.now) (g.S.Source.ends c.args.input.now) (g.K.Sink.held c.args.output.now)
