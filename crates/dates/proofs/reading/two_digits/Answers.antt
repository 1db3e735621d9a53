-- `two_digits` meets its contract.
-- Assumes nothing.
use Rattle.std.proofs.Common.{◌≡◌, sym, ◌∙◌, ℕ, leb}
use Rattle.std.specs.Char.{is_ascii_digit}
use Rattle.laws.specs.Choice.{choose}
use Rattle.dates.specs.Text.{is_digit, two_digits}
use Rattle.dates.proofs.reading.two_digits.Goals as goal
use Rattle.dates.proofs.reading.two_digits.Goals.{then-not-is_ascii_digit-via-then-not-is_ascii_digit, then-not-is_ascii_digit-via-else-not-is_ascii_digit+then-not-is_ascii_digit-2}

same : (b : ℕ) → is_digit b ≡ is_ascii_digit b
same b = choose (leb 48 b) (λ p. rw p) (λ p. rw p)

pub returns-then-not-is_ascii_digit : goal.returns-then-not-is_ascii_digit
unfolding two_digits
returns-then-not-is_ascii_digit c =
    elim c.then-not-is_ascii_digit.branch [
      | then-not-is_ascii_digit-via-then-not-is_ascii_digit w ↦ rw (same c.args.tens ∙ sym c.is_ascii_digit.ensures.value ∙ w.if-not-is_ascii_digit.true)
      | then-not-is_ascii_digit-via-else-not-is_ascii_digit+then-not-is_ascii_digit-2 w ↦
          rw (same c.args.tens ∙ sym c.is_ascii_digit.ensures.value ∙ w.if-not-is_ascii_digit.false, same c.args.ones ∙ sym w.is_ascii_digit-else-not-is_ascii_digit.ensures.value ∙ w.if-not-is_ascii_digit-2.true)
    ]

pub returns : goal.returns
unfolding two_digits
returns c =
    rw (same c.args.tens ∙ sym c.is_ascii_digit.ensures.value ∙ c.if-not-is_ascii_digit.false, same c.args.ones ∙ sym c.is_ascii_digit-else-not-is_ascii_digit.ensures.value ∙ c.if-not-is_ascii_digit-2.false)
