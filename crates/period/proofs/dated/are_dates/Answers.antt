-- `are_dates` meets its contract.
-- Assumes nothing.
use Rattle.laws.specs.Choice.{false≢true}
use Rattle.raw_bytes.specs.Eights.{eights_known}
use Rattle.period.specs.Dated.{dates_told}
use Rattle.period.proofs.dated.are_dates.Goals as goal

pub returns-in_default : goal.returns-in_default
returns-in_default c e = absurd (false≢true e)

pub returns-in_default-eight_at : goal.returns-in_default-eight_at
returns-in_default-eight_at c e = absurd (false≢true e)

pub returns-in_default-eight_at-2 : goal.returns-in_default-eight_at-2
returns-in_default-eight_at-2 c e = absurd (false≢true e)

pub returns : goal.returns
returns c e =
    let s = c.args.g.now in
    dates_told s (eights_known s 8 c.eight_at.ensures c.in-Some.is) (eights_known s 16 c.eight_at-2.ensures c.in-Some-eight_at.is) (eights_known s 21 c.eight_at-3.ensures c.in-Some-eight_at-2.is)
    c.differing.ensures c.differing-2.ensures c.differing-3.ensures e
