-- What a scan comes to is what the table answers.
-- Assumes nothing.
use Rattle.std.specs.Prelude.{◌≡◌, List, ℕ, ◌+◌, ltb, length, Result}
use Rattle.std.proofs.Common.{ap, ◌∙◌}
use Rattle.laws.specs.Choice.{all, choose}
use Rattle.syntax.specs.Bytes.{permitted_of}
use Rattle.syntax.specs.declared.segment.ScanError.{ScanError}
use Rattle.syntax.specs.Segment.{well_formed, scan_of, segment_at, scanned_answer, body_answer, segment_answer}

body_said : (n at : ℕ) (g : List ℕ) → scanned_answer at (scan_of n at g) ≡ body_answer n at g
unfolding scan_of body_answer
body_said n at g =
    choose (all permitted_of g)
    (λ p.
    choose (ltb (at + length g) n)
    (λ l. choose (well_formed g) (λ w. rw (p, l, w)) (λ w. rw (p, l, w)))
    (λ l. rw (p, l)))
    (λ p. rw p)

pub scan_said : (s : List ℕ) (at : ℕ) {x : Result ℕ ScanError} → x ≡ segment_at s at → (x ≡ segment_at s at) × (scanned_answer at x ≡ segment_answer s at)
scan_said s at e = (e, ap (scanned_answer at) e ∙ body_said (length s) at _)
