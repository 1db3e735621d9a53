-- `read_period` meets its contract.
-- Assumes nothing.
use Rattle.parts.specs.Places.{bytes_of}
use Rattle.period.specs.Said.{period_said}
use Rattle.period.proofs.read_period.Goals as goal

pub returns : goal.returns
returns c =
    let a = c.args in record { period = (period_said a.wish (bytes_of a.s.now a.segment) c.read_any.ensures).0; said = (period_said a.wish (bytes_of a.s.now a.segment) c.read_any.ensures).1 }
