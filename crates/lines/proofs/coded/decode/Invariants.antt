-- `lines::decode` writes what each sign says, as far as there is room.
-- Assumes nothing.
use Prim.Native.Nat.{◌-◌}
use lib.ListN.{length, drop}
use Rattle.lines.specs.Coded.{said, Writing}
use Rattle.lines.proofs.coded.decode.Given as goal

abbrev pub invariant-loop-sign : goal.invariant-loop-sign
invariant-loop-sign l = Writing l.text l.initial.out l.n l.out (said (drop l.i l.text))

abbrev pub decreases-loop-sign : goal.decreases-loop-sign
decreases-loop-sign l = length l.text - l.i
