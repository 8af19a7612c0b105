use Rattle.std.proofs.Common.{◌≡◌, ◌++◌, codes, map, take}
use Rattle.sec_ast.specs.PrintActions.{quoted_piece}
use Rattle.sec_ast.proofs.print_actions.add_tags.Given as goal

abbrev pub invariant-loop-tag : goal.invariant-loop-tag
invariant-loop-tag l = l.pieces ≡ l.fn.pieces ++ map (quoted_piece (codes "tag:")) (take l.tag-index l.tag-items)
