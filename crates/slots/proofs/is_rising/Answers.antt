-- `slots::is_rising` meets its contract. Invariant: the slots from the one before k on rise exactly when all do.
-- Assumes nothing.
use Prim.Native.Nat.{◌+◌, ◌-◌}
use Rattle.std.proofs.Common.{◌≡◌, ◌∙◌, arith}
use Rattle.slots.specs.Rising.{rising_end, rising_on, rising_not}
use Rattle.slots.proofs.is_rising.Goals as goal

pub returns-then-not-rises_at : goal.returns-then-not-rises_at
returns-then-not-rises_at c =
    let l = c.loop-k in
    rising_not c.args.room.now (l.k - 1) (omega arith) c.rises_at.result c.rises_at.ensures c.if-not-rises_at.true ∙ l.invariant

pub loop-k-preserved : goal.loop-k-preserved
loop-k-preserved c =
    let l = c.loop-k in
    let e : l.k + 1 - 1 ≡ l.k - 1 + 1 = omega arith in
    rw e (rising_on c.args.room.now (l.k - 1) (omega arith) c.rises_at.result c.rises_at.ensures c.if-not-rises_at.false ∙ l.invariant)

pub returns : goal.returns
returns c =
    let l = c.loop-k in
    rising_end c.args.room.now (l.k - 1) (omega arith) ∙ l.invariant
