use Rattle.std.proofs.Common.{◌≡◌, drop, map}
use Rattle.sec_compile.specs.Links.{built_link}
use Rattle.sec_meaning.specs.Links.{after_links}
use Rattle.sec_eval.proofs.links.after_links.Given as goal

abbrev pub invariant-loop-link : goal.invariant-loop-link
invariant-loop-link l = record {
  place : l.place ≡ l.link-index;
  askers : l.askers ≡ map built_link l.links;
  left : after_links (drop l.link-index l.links) l.state ≡ after_links l.links l.fn.state;
}
