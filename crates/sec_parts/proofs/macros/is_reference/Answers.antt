use Rattle.std.proofs.Common.{sym, ◌∙◌}
use Rattle.sec_parts.proofs.MacroLaws.{reference_by_tail}
use Rattle.sec_parts.proofs.macros.is_reference.Goals as goal

pub returns-then-has_open : goal.returns-then-has_open
returns-then-has_open c =
    reference_by_tail c.args.tail c.args.text.now c.requires (sym c.if-has_open.true ∙ c.has_open.ensures)
