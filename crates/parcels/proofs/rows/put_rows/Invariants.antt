-- `parcels::rows::put_rows` copies a row in each turn, its offset raised.
-- Assumes nothing.
use Prim.Native.Nat.{◌+◌, ◌*◌}
use mathlib.Core.Path.{◌≡◌}
use lib.ListN.{length, take}
use Rattle.laws.specs.Put.{put_at}
use Rattle.parcels.specs.Rows.{raised, left_from}
use Rattle.parcels.proofs.rows.put_rows.Given as goal

abbrev pub invariant-loop-row : goal.invariant-loop-row
invariant-loop-row l =
    (length l.rows ≡ length l.initial.rows) × (put_at l.rows (l.at + 3 * l.row) (left_from l.from l.n l.at l.base (3 * l.row)) ≡ put_at l.initial.rows l.at (raised l.base (take l.n l.from)))
