-- The next byte of an input.
use Rattle.std.specs.Prelude.{[], ◌∷◌, false, true}
use Rattle.console.specs.declared.next.Next as next
use Rattle.console.specs.declared.next.Next.TheVariants as nexts
use Rattle.console.specs.Orders.{Around, Takes}

abbrev pub TakesByte : next.Next → Around → Around → Type 0
TakesByte (nexts.Byte c) old new = Takes (c ∷ []) false old new
TakesByte nexts.End old new = Takes [] true old new
TakesByte nexts.Failed old new = Takes [] false old new
