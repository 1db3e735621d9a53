-- `lines::number` reads the digits from the left.
-- Assumes nothing.
use native.Mathlib.Omega.{arith}
use Rattle.lines.specs.Numbers.{number_starts, number_low, number_high, number_on, number_none}
use Rattle.lines.proofs.number.Goals.{then-b-lt48-via-then-b-lt48, then-b-lt48-via-else-b-lt48+then-b-gt57}
use Rattle.lines.proofs.number.Goals as goal

pub loop-i-init : goal.loop-i-init
loop-i-init c = number_starts c.args.s.now c.args.from

pub returns-then-b-lt48 : goal.returns-then-b-lt48
returns-then-b-lt48 c =
    elim c.then-b-lt48.branch [
      | then-b-lt48-via-then-b-lt48 w ↦ number_low c.args.s.now c.args.from c.loop-i.i _ c.loop-i.invariant (omega arith) w.if-b-lt48.true
      | then-b-lt48-via-else-b-lt48+then-b-gt57 w ↦ number_high c.args.s.now c.args.from c.loop-i.i _ c.loop-i.invariant (omega arith) (omega (arith, w.if-b-lt48.false)) w.if-b-gt57.true
    ]

pub loop-i-preserved : goal.loop-i-preserved
loop-i-preserved c = number_on c.args.s.now c.args.from c.loop-i.i _ c.loop-i.invariant (omega arith) (omega arith) (omega arith)

pub returns : goal.returns
returns c = number_none c.args.s.now c.args.from c.loop-i.i _ c.loop-i.invariant (omega arith)
