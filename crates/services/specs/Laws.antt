-- What callers cite of the services and of their tests.
-- Assumes nothing.
use Rattle.std.specs.Prelude.{ℕ, ◌≤◌, ◌<◌, ◌≡◌, refl, Bool, true, false, List, [], leb, length, Result, Ok, Err}
use Rattle.std.proofs.Common.{ap, ◌∙◌, arith}
use borrow.Author.Tests.{leb-true, not-false, not-true}
use Rattle.laws.specs.Choice.{both, both_parts, choose}
use Rattle.answers.specs.declared.Refusal.{Refusal}
use Rattle.answers.specs.Answers.{Answer, done, refused}
use Rattle.answers.specs.Laws.{refused≢done, one_case}
use Rattle.syntax.specs.Bytes.{plain}
use Rattle.syntax.specs.Pieces.{part_of}
use Rattle.syntax.specs.Segment.{body_at}
use Rattle.parts.specs.Places.{bytes_of, segment_of}
use Rattle.parts.specs.Located.{part_bytes}
use Rattle.services.specs.declared.Service.{Service}
use Rattle.services.specs.Rows.{row_count}
use Rattle.services.specs.Search.{some_none}
use Rattle.services.specs.Services.{service_number, number_fits, periods_fit, has_period, periods_of, is_wrong, is_same_service, is_twice, tested_of, tested_answer, counted_answer}
use Rattle.parts.specs.Segments.{segment_bytes}
use Rattle.services.specs.Ways.{has_none}

-- the bytes of a number are the first component of the first occurrence of the PRD's first element
pub number_part : (s : List ℕ) (at : ℕ) → bytes_of s (service_number s at) ≡ part_of (body_at s at) 1 1 1
unfolding service_number
number_part s at =
    part_bytes s (segment_of s at) 1 1 1 ∙ ap (λ (y : List ℕ). part_of y 1 1 1) (segment_bytes s at)

-- what a good service is
pub record Fine (s rows : List ℕ) (v : Service) : Type 0 where
  -- its number has 1 to 10 characters after release
  pub some : 1 ≤ length (plain (bytes_of s v.number))
  pub few : length (plain (bytes_of s v.number)) ≤ 10
  -- a removal carries no POP, a put at least one
  pub removal : v.removal ≡ true → periods_of rows v ≡ []
  pub put : v.removal ≡ false → has_period rows v.from v.to ≡ true
  -- no service before it has its number
  pub alone : (j : ℕ) → j < row_count rows v.from → is_same_service s rows (bytes_of s v.number) j ≡ false

module _ (s rows : List ℕ) (v : Service) where
  abbrev size : ℕ
  size = length (plain (bytes_of s v.number))

  abbrev carries : Bool
  carries = has_period rows v.from v.to

  right_fine : is_wrong s rows v ≡ false → is_twice s rows (bytes_of s v.number) v.from ≡ false → Fine s rows v
  unfolding is_wrong is_twice
  right_fine p q =
      let w = both_parts (number_fits size) (periods_fit v.removal carries) (not-false (both (number_fits size) (periods_fit v.removal carries)) p) in
      let n = both_parts (leb 1 size) (leb size 10) w.0 in
      record {
        some = leb-true 1 size n.0;
        few = leb-true size 10 n.1;
        removal = λ r. has_none rows v.from v.to (not-true carries (rw r at w.1));
        put = λ r. rw r at w.1;
        alone = λ j h. some_none (is_same_service s rows (bytes_of s v.number)) 0 (row_count rows v.from) q j (omega arith) h;
      }

  pub good_fine : tested_of s rows v ≡ done tt → Fine s rows v
  unfolding tested_of
  good_fine t =
      choose (is_wrong s rows v) (λ p. absurd (refused≢done (rw p at t)))
      (λ p.
      choose (is_twice s rows (bytes_of s v.number) v.from)
      (λ q. absurd (refused≢done (rw (p, q) at t)))
      (λ q. right_fine p q))

-- what the tests answer fixes their case
abbrev tested_case : Answer (Unit {0}) → Result (Unit {0}) Refusal
tested_case (done u) = Ok u
tested_case (refused refusal) = Err refusal

tested_back : (x : Result (Unit {0}) Refusal) → tested_case (tested_answer x) ≡ x
tested_back (Ok u) = refl
tested_back (Err x) = refl

pub tested_same : (x y : Result (Unit {0}) Refusal) → tested_answer x ≡ tested_answer y → x ≡ y
tested_same = one_case tested_answer tested_case tested_back

abbrev counted_case : Answer ℕ → Result ℕ Refusal
counted_case (done n) = Ok n
counted_case (refused refusal) = Err refusal

counted_back : (x : Result ℕ Refusal) → counted_case (counted_answer x) ≡ x
counted_back (Ok n) = refl
counted_back (Err x) = refl

pub counted_same : (x y : Result ℕ Refusal) → counted_answer x ≡ counted_answer y → x ≡ y
counted_same = one_case counted_answer counted_case counted_back
