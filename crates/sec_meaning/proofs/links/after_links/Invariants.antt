use Rattle.std.proofs.Common.{◌≡◌, drop}
use Rattle.sec_meaning.specs.Links.{after_links}
use Rattle.sec_meaning.proofs.links.after_links.Given as goal

abbrev pub invariant-loop-link : goal.invariant-loop-link
invariant-loop-link l = after_links (drop l.link-index l.links) l.state ≡ after_links l.links l.fn.state
