-- The state of the list of applications.
use Rattle.std.specs.Prelude.{ℕ}
use Rattle.shelf.specs.declared.apps.Apps.{Apps}

-- the applications that were published last, and the number of the lists so far
pub record State (R : Type 0) : Type 0 where
  pub generation : ℕ
  pub apps : Apps R

-- no list has a greater number
abbrev pub last_generation : ℕ
last_generation = 18446744073709551615
