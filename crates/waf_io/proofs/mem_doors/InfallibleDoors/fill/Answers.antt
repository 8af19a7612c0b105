use Rattle.std.proofs.Common.{◌≡◌, ◌<◌, ◌-◌, ◌++◌, ◌∙◌, ◌∷◌, [], List, ap, arith, length, refl, subst, sym}
use Rattle.std.specs.List.{All}
use Rattle.waf_io.specs.MemDoor.{copies, IsUnused, new_door}
use Rattle.waf_io.proofs.Unused.{all_and_one, one_fewer}
use Rattle.waf_io.proofs.mem_doors.InfallibleDoors.fill.Goals as goal

pub loop-alloc-preserved : goal.loop-alloc-preserved
loop-alloc-preserved g c =
    let kept = c.loop-alloc.invariant in
    let added = c.in_ok-add.ensures.ok in
    let ready = c.loop-alloc.self-inside.doors.ready in
    let count = c.args.count in
    let lt : length ready < count = omega (arith, c.ready.ensures, c.loop-alloc-test.true) in
    let longer : c.add.new.self.ready ≡ ready ++ new_door [] ∷ [] = ap (λ s. s.ready) added ∙ ap (λ d. ready ++ d ∷ []) c.empty.ensures in
    let same = one_fewer (new_door []) ready count lt ∙ kept.ready in
    record {
      ready = ap (λ (l : List _). l ++ copies (count - length l) (new_door [])) longer ∙ same;
      unused = subst (All IsUnused) (sym longer) (all_and_one IsUnused ready (new_door []) kept.unused (refl, refl, refl, refl));
      returned = ap (λ s. s.returned) added ∙ kept.returned;
      out = ap (λ s. s.out) added ∙ kept.out;
    }
