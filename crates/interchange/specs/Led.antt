-- Where a segment leads, as it is told.
-- Assumes nothing.
use Rattle.std.specs.Prelude.{◌≡◌, Bool, true, false, List, ℕ, ◌<◌, eqb, drop, Option, Some, None, Ok}
use Rattle.std.proofs.Common.{subst}
use Rattle.laws.specs.Choice.{pick}
use Rattle.syntax.specs.Segment.{body_at, tag_number, segment_at}
use Rattle.period.specs.Period.{is_good, period_of}
use Rattle.placing.specs.Table.{Table, rows, tag_at}
use Rattle.hints.proofs.Onward.{Onward}
use Rattle.interchange.specs.Heads.{capital_tag}
use Rattle.interchange.specs.declared.led.PeriodRow.{PeriodRow}
use Rattle.interchange.specs.declared.led.Led.{Led}

-- the tag of a step is three capital letters
abbrev pub Lettered : Table → Type 0
Lettered t = (row n tag to m : ℕ) → Onward t row n tag to m → capital_tag tag ≡ true

-- the segment is whole, and the place is the next, at a row of the table that has its tag; at the row of a period that is read it is a good one by the caller's wish
pub record Tells (s : List ℕ) (at : ℕ) (t : Table) (row counts : ℕ) (period : PeriodRow) (to next end : ℕ) : Type 0 where
  pub whole : segment_at s at ≡ Ok end
  pub on : Onward t row counts (tag_number (drop at s)) to next
  pub tagged : tag_at t to ≡ tag_number (drop at s)
  pub inside : to < rows t
  pub fits : next < 18446744073709551616
  pub good : pick (eqb to period.row) (is_good (period_of period.wish (body_at s at))) true ≡ true

abbrev pub LedTold : List ℕ → ℕ → Table → ℕ → ℕ → PeriodRow → Option Led → Type 0
LedTold s at t row counts period (Some led) = Tells s at t row counts period led.place.row led.place.counts led.end
LedTold s at t row counts period None = Unit {0}

pub led_known : (s : List ℕ) (at : ℕ) (t : Table) (row counts : ℕ) (period : PeriodRow) {r : Option Led} {led : Led} → LedTold s at t row counts period r → r ≡ Some led
    → Tells s at t row counts period led.place.row led.place.counts led.end
led_known s at t row counts period k q = subst (LedTold s at t row counts period) q k

-- a segment that is not read, and one that is
pub good_other : (wish read : Bool) (g : List ℕ) → read ≡ false → pick read (is_good (period_of wish g)) true ≡ true
good_other wish read g q = rw q

pub good_read : (wish read : Bool) (g : List ℕ) → read ≡ true → is_good (period_of wish g) ≡ true → pick read (is_good (period_of wish g)) true ≡ true
good_read wish read g q e = rw q e
