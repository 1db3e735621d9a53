-- `write_characters` meets its contract.
-- Assumes nothing.
use native.Mathlib.Omega.{arith}
use Rattle.calendar.specs.Parts.{characters_refused, characters_put}
use Rattle.calendar.proofs.day_string.write_characters.Goals as goal
use Rattle.calendar.proofs.day_string.write_characters.Goals.{then-out-lt32-via-then-out-lt32, then-out-lt32-via-else-out-lt32+then-out-n}

pub returns-then-out-lt32 : goal.returns-then-out-lt32
returns-then-out-lt32 c =
    let a = c.args in
    elim c.then-out-lt32.branch [
      | then-out-lt32-via-then-out-lt32 w ↦ characters_refused a.days.now a.first a.last a.n a.out.now (omega arith)
      | then-out-lt32-via-else-out-lt32+then-out-n w ↦ characters_refused a.days.now a.first a.last a.n a.out.now (omega arith)
    ]

pub returns : goal.returns
returns c =
    let a = c.args in
    characters_put a.days.now a.first a.last a.n a.out.now (omega arith) c.put_start.ensures c.put_bytes.ensures.1 c.put_days.ensures c.put_bytes-2.ensures.1
