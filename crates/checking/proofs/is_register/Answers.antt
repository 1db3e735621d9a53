-- `checking::is_register` meets its contract.
-- Assumes nothing.
use mathlib.Core.Path.{sym, ◌∙◌}
use native.Mathlib.Omega.{arith}
use Rattle.slots.specs.Words.{Bytes}
use Rattle.checking.specs.Register.{other_buffer, window_outside, window_inside}
use Rattle.checking.proofs.is_register.Goals.{Else-b-ne-LENGTH}
use Rattle.checking.proofs.is_register.Goals as goal

pub returns-then-b-ne-LENGTH : goal.returns-then-b-ne-LENGTH
returns-then-b-ne-LENGTH c = sym (other_buffer c.args.b.now c.if-b-ne-LENGTH.true)

bytes : (s : Else-b-ne-LENGTH) → Bytes s.args.b.now
bytes s i = omega (arith, s.type_inv.b i)

pub returns-then-number_at-gt-DATES : goal.returns-then-number_at-gt-DATES
returns-then-number_at-gt-DATES c =
    window_outside c.args.b.now (bytes (goal.at.returns-then-number_at-gt-DATES c).Else-b-ne-LENGTH) c.if-b-ne-LENGTH.false c.number_at.result c.number_at.ensures.0 c.if-number_at-gt-DATES.true

pub returns : goal.returns
returns c =
    c.are_rooms.ensures ∙ window_inside c.args.b.now (bytes (goal.at.returns c).Else-b-ne-LENGTH) c.if-b-ne-LENGTH.false c.number_at.result c.number_at.ensures.0 c.if-number_at-gt-DATES.false
