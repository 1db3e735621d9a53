-- `rooms::room_end` meets its contract. Invariant: the head and the rooms before k are passed.
-- Assumes nothing.
use mathlib.Core.Path.{◌≡◌}
use Prim.Native.Nat.{◌≤◌, ◌+◌, ◌*◌}
use Rattle.rooms.specs.Views.{room_end}
use Rattle.rooms.proofs.room_end.Given as goal

abbrev pub invariant-loop-k : goal.invariant-loop-k
invariant-loop-k l = (l.k ≤ l.account) × (l.at ≡ room_end l.b l.k) × (l.at ≤ 18 + l.k * 9174900)
