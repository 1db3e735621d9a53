-- `put_rows` meets its contract: the rows that are left, put behind those that stand, give the whole text.
-- Assumes nothing.
use mathlib.Core.Path.{◌≡◌}
use Prim.Native.Nat.{◌-◌, ◌≤◌, ◌+◌}
use lib.ListN.{length, drop}
use Rattle.laws.specs.Put.{put_at}
use Rattle.text.specs.Text.{rows_text}
use Rattle.text.proofs.put_rows.Given as goal

abbrev pub invariant-loop-k : goal.invariant-loop-k
invariant-loop-k l =
    (length l.out ≡ length l.initial.out) × (l.to + length (rows_text (l.n - l.k) l.rest) ≤ length l.out)
    × (l.to + length (rows_text (l.n - l.k) l.rest) ≡ l.at + length (rows_text l.n l.rows))
    × (put_at l.out l.to (rows_text (l.n - l.k) l.rest) ≡ put_at l.initial.out l.at (rows_text l.n l.rows))
