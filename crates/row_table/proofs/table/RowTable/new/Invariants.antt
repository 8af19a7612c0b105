use Rattle.std.proofs.Common.{◌≡◌, vec_capacity}
use Rattle.row_table.proofs.Kept.{Fresh}
use Rattle.row_table.proofs.table.RowTable.new.Given as goal

abbrev pub invariant-loop-place : goal.invariant-loop-place
invariant-loop-place g l = (vec_capacity l.rows ≡ vec_capacity l.initial.rows) × (vec_capacity l.free ≡ vec_capacity l.initial.free) × Fresh l.place l.rows.items l.free.items
