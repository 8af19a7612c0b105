use Rattle.std.proofs.Common.{◌≡◌, ◌∙◌, ◌+◌, ◌∷◌, List, drop, sym, ap}
use Rattle.std.specs.List.{flat_map}
use Rattle.std.proofs.lemmas.List.{drop_all, drop_more}
use Rattle.sec_ast.specs.declared.macros.Part.{Part}
use Rattle.sec_collect.specs.declared.expansion.TheConstants.{EXPANSION_LIMIT}
use Rattle.sec_collect.specs.Expansion.{expansion, part_text}
use Rattle.sec_collect.proofs.Takes.{taken, cut_all, cut_more}
use Rattle.sec_collect.proofs.expansion.expand.Goals as goal

pub loop-part-preserved : goal.loop-part-preserved
loop-part-preserved c =
    let f = part_text c.args.vars.now in
    let text : List Part = c.args.text.now in
    let i = c.loop-part.part-index in
    let part : Part = c.part-item.result in
    let there : drop i text ≡ part ∷ drop (i + 1) text =
    drop_more text i part (rw c.as_slice-part-items.ensures at c.loop-part-test.true) ∙ ap (λ (p : Part). p ∷ drop (i + 1) text) (sym (rw c.as_slice-part-items.ensures at c.part-item.is)) in
    record {
      small = rw c.in_ok-add_within.ensures (taken EXPANSION_LIMIT _);
      left = cut_more EXPANSION_LIMIT c.loop-part.out c.add_within.new.out (f part) (flat_map f (drop (i + 1) text)) (expansion c.args.vars.now text)
          (rw c.part_text.ensures at c.in_ok-add_within.ensures) (rw there at c.loop-part.invariant.left);
    }

pub returns : goal.returns
returns c =
    let gone = drop_all c.loop-part.part-index c.args.text.now (rw c.as_slice-part-items.ensures at c.loop-part-test.false) in
    cut_all EXPANSION_LIMIT c.loop-part.out (expansion c.args.vars.now c.args.text.now) c.loop-part.invariant.small (rw gone at c.loop-part.invariant.left)
