-- How the items of a list are lent to be changed.
use Rattle.std.specs.Prelude.{List, ◌++◌, length, take, drop}
use Rattle.std.specs.Borrow.{Lends, Fml, RattleType, MutBor, Array}
use Rattle.waf_plain.specs.contracts.seq.Seq.{the_row}

-- the list with these items in place of its own; it keeps its length
abbrev pub with_items : {T : Type 0} → List T → List T → List T
with_items old items = take (length old) (items ++ drop (length items) old)

-- once the borrow r ends, the list s has the items that r shows last
abbrev pub LendsItems : (T : RattleType) → MutBor (List T.Denot) → MutBor (List T.Denot) → Fml
LendsItems T s r = Lends (the_row T) (Array T 0) s r (with_items s.now)
