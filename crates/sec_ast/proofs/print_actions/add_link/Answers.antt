use Rattle.sec_ast.proofs.Written.{link_end}
use Rattle.sec_ast.proofs.print_actions.add_link.Goals as goal

pub returns : goal.returns
returns c =
    link_end c.args.link.now c.args.follows c.add_flag-3.result c.args.pieces.now c.add_transforms.new.pieces c.add_flag.new.pieces c.add_flag-2.new.pieces
    c.add_setvars.new.pieces c.add_ctls.new.pieces c.add_flag-3.new.pieces
    c.in_ok-add_transforms.ensures c.in_ok-add_flag.ensures c.in_ok-add_flag-2.ensures c.in_ok-add_setvars.ensures c.in_ok-add_ctls.ensures c.add_flag-3.ensures
