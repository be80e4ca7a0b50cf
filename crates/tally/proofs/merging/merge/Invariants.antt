use Rattle.std.proofs.Common.{◌≤◌, take}
use Rattle.table.specs.Maps.{Ascending}
use Rattle.table.specs.Rows.{SameMemory, Sound, rows}
use Rattle.tally.proofs.Together.{Midway}
use Rattle.tally.proofs.merging.merge.Given as goal

-- The rows so far are added.
abbrev pub invariant-loop-row : goal.invariant-loop-row
invariant-loop-row g l =
    SameMemory l.initial.table l.table × (l.initial.table.len ≤ l.table.len)
    × (Sound g.K.Key.less l.initial.table → Ascending g.K.Key.less l.rows
    → Sound g.K.Key.less l.table × Midway g.K.Key.less g.V.Sum.sum (rows l.initial.table) (take l.row-index l.rows) (rows l.table))
