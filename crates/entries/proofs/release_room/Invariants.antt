-- `entries::release_room` meets its contract. Invariant: of whatever room the slots before the loop were released, so are those that it has passed.
-- Assumes nothing.
use mathlib.Core.Path.{◌≡◌}
use mathlib.Core.List.{List}
use Prim.Native.Nat.{ℕ, ◌*◌, ◌≤◌}
use lib.ListN.{length}
use Rattle.entries.specs.Released.{SoFar}
use Rattle.entries.proofs.release_room.Given as goal

abbrev pub invariant-loop-k : goal.invariant-loop-k
invariant-loop-k l =
    (length l.room ≡ length l.initial.room)
    × (l.to ≤ l.k * 140)
    × (l.count ≤ l.k)
    × ((s : List ℕ) → SoFar s l.initial.room l.initial.k l.initial.to l.initial.count → SoFar s l.room l.k l.to l.count)
