-- `fits` meets its contract: what is left of the room is for the rows that are left.
-- Assumes nothing.
use mathlib.Core.Path.{◌≡◌}
use Prim.Native.Nat.{◌-◌, ◌≤◌}
use lib.Dec.{leb}
use lib.ListN.{length, drop}
use Rattle.text.specs.Text.{rows_text}
use Rattle.text.proofs.fits.Given as goal

abbrev pub invariant-loop-k : goal.invariant-loop-k
invariant-loop-k l = leb (length (rows_text (l.n - l.k) l.rest)) l.left ≡ leb (length (rows_text l.n l.rows)) l.room
