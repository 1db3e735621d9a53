-- What is found at an offset, as an answer of the table of numbers: a segment or nothing more, or 4, 5, 6 with its place.
-- Assumes nothing.
use Rattle.std.specs.Prelude.{◌≡◌, refl, List, ℕ, ◌+◌, leb, length, drop, Option, Some, None, Result, Ok, Err}
use Rattle.std.proofs.Common.{ap, ◌∙◌}
use Rattle.laws.specs.Choice.{pick, choose}
use Rattle.answers.specs.Answers.{Answer, done, refused}
use Rattle.syntax.specs.declared.segment.ScanError.{ScanError}
use Rattle.syntax.specs.declared.segment.ScanError.TheVariants.{NotPermitted, Unended, Malformed}
use Rattle.syntax.specs.Segment.{segment_at, tag_number, scanned_answer, segment_answer}
use Rattle.syntax.specs.Said.{scan_said}
use Rattle.answers.specs.declared.Refusal.{Refusal}
use Rattle.lent.specs.declared.Segment.{Segment}
use Rattle.lent.specs.Lent.{scanned_found, segment_found}

-- what stands at an offset: a segment, by its tag and where the next one begins; or nothing, the interchange being over
pub data Standing : Type 0 where
  segment : ℕ → ℕ → Standing
  over : Standing

-- what each case answers
abbrev pub found_answer : Result (Option Segment) Refusal → Answer Standing
found_answer (Ok (Some g)) = done (segment g.tag g.after)
found_answer (Ok None) = done over
found_answer (Err x) = refused x

-- "in it 4, 5, 6": what the segment answers, with its tag and the next one's offset
abbrev pub standing : List ℕ → ℕ → Answer ℕ → Answer Standing
standing s at (done e) = done (segment (tag_number (drop at s)) (e + 1))
standing s at (refused refusal) = refused refusal

unfoldable pub standing_at : List ℕ → ℕ → Answer Standing
standing_at s at = pick (leb (length s) at) (done over) (standing s at (segment_answer s at))

told_said : (s : List ℕ) (at : ℕ) (x : Result ℕ ScanError) → found_answer (scanned_found s at x) ≡ standing s at (scanned_answer at x)
told_said s at (Ok e) = refl
told_said s at (Err (NotPermitted i)) = refl
told_said s at (Err Unended) = refl
told_said s at (Err Malformed) = refl

-- what is found is what the table answers
pub found_said : (s : List ℕ) (at : ℕ) → found_answer (segment_found s at) ≡ standing_at s at
unfolding segment_found standing_at
found_said s at =
    choose (leb (length s) at)
    (λ q. rw q)
    (λ q. rw q (told_said s at (segment_at s at) ∙ ap (standing s at) (scan_said s at refl).1))

-- what a function promises of what it finds: the case, and the answer of the table that it is
abbrev pub Told : List ℕ → ℕ → Result (Option Segment) Refusal → Type 0
Told s at r = (r ≡ segment_found s at) × (found_answer r ≡ standing_at s at)

pub told_by_lem : (s : List ℕ) (at : ℕ) (r : Result (Option Segment) Refusal) → r ≡ segment_found s at → Told s at r
told_by_lem s at r e = (e, ap found_answer e ∙ found_said s at)
