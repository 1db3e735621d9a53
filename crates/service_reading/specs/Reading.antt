-- The rows that the reader wrote: where an interchange is accepted, its services are those of the rows of its reading, whatever the buffer held.
-- Assumes nothing.
use Rattle.std.specs.Prelude.{ℕ, zero, suc, ◌+◌, ◌*◌, ◌/◌, ◌≤◌, ◌<◌, ◌≡◌, refl, Bool, true, List, [], ◌∷◌, ◌++◌, eqb, ltb, length, get_or, drop}
use Rattle.std.proofs.Common.{ap, ◌∙◌, arith, lt-ltb, ltb-false}
use Rattle.laws.specs.Choice.{both, choose}
use Rattle.laws.specs.Put.{put_front}
use Rattle.steps.specs.declared.state.Row.{Row}
use Rattle.answers.specs.Answers.{done, refused}
use Rattle.answers.specs.Laws.{refused≢done, done_is}
use Rattle.interchange.specs.Reader.{Verdict, reading_of, numbers, verdict_answer, outcome_answer, rows_by, rows_after}
use Rattle.interchange.specs.Laws.{length_numbers}
use Rattle.services.specs.declared.Service.{Service}
use Rattle.services.specs.Rows.{offset_at, is_row}
use Rattle.services.specs.Services.{next_service, next_period, tested_of, counted_of}
use Rattle.service_reading.specs.Front.{next_front, tested_front, counted_front, period_front}

-- row i of the numbers is row i of the list
number_at : (rows : List Row) (i : ℕ) (z : Row) → i < length rows
    → (get_or (numbers rows) (3 * i) 0 ≡ (get_or rows i z).offset) × (get_or (numbers rows) (3 * i + 1) 0 ≡ (get_or rows i z).group) × (get_or (numbers rows) (3 * i + 2) 0 ≡ (get_or rows i z).tag)
unfolding numbers
number_at [] i z h = absurd (omega arith)
number_at (r ∷ l) zero z h = (refl, refl, refl)
number_at (r ∷ l) (suc i) z h =
    let a : 3 * suc i ≡ suc (suc (suc (3 * i))) = omega arith in
    let b : suc (suc (suc (3 * i))) + 1 ≡ suc (suc (suc (3 * i + 1))) = omega arith in
    let d : suc (suc (suc (3 * i))) + 2 ≡ suc (suc (suc (3 * i + 2))) = omega arith in
    rw (a, b, d) (number_at l i z (omega arith))

module _ (rows : List Row) (i : ℕ) (z : Row) (h : i < length rows) where
  held : ltb i (length (numbers rows) / 3) ≡ true
  held =
      let e = length_numbers rows in
      lt-ltb i (length (numbers rows) / 3) (omega arith)

  pub offset_read : offset_at (numbers rows) i ≡ (get_or rows i z).offset
  unfolding offset_at
  offset_read = rw held (number_at rows i z h).0

  pub row_read : (group tag : ℕ) → is_row (numbers rows) group tag i ≡ both (eqb (get_or rows i z).group group) (eqb (get_or rows i z).tag tag)
  unfolding is_row
  row_read group tag =
      let w = number_at rows i z h in
      rw (held, w.1, w.2)

-- an answer of n rows: they are all there, and stand at the front of the buffer
abbrev Stands : List Row → List ℕ → ℕ → Verdict → Type 0
Stands rows lent n v = (length rows ≡ n) × (rows_by rows lent v ≡ numbers rows ++ drop (length (numbers rows)) lent)

stands_by : (rows : List Row) (lent : List ℕ) (n : ℕ) (v : Verdict) → verdict_answer rows (length lent) v ≡ done n → Stands rows lent n v
stands_by rows lent n (done _) q =
    choose (ltb (length lent) (3 * length rows))
    (λ p. absurd (refused≢done (rw p at q)))
    (λ p.
    let h = ltb-false (length lent) (3 * length rows) p in
    let e = length_numbers rows in
    (done_is (rw p at q), put_front lent (numbers rows) (omega arith)))
stands_by rows lent n (refused refusal) q = absurd (refused≢done q)

module _ (wish : Bool) (s lent : List ℕ) (n : ℕ) (q : outcome_answer (reading_of wish s) (length lent) ≡ done n) where
  abbrev rows : List ℕ
  rows = numbers (reading_of wish s).rows

  abbrev past : List ℕ
  past = drop (length (numbers (reading_of wish s).rows)) lent

  stands : (length (reading_of wish s).rows ≡ n) × (rows_after (reading_of wish s) lent ≡ numbers (reading_of wish s).rows ++ drop (length (numbers (reading_of wish s).rows)) lent)
  unfolding outcome_answer rows_after
  stands = stands_by (reading_of wish s).rows lent n (reading_of wish s).verdict q

  enough : 3 * n ≤ length (numbers (reading_of wish s).rows)
  enough =
      let a = length_numbers (reading_of wish s).rows in
      let b = stands.0 in
      omega arith

  pub next_read : (i : ℕ) → next_service s (rows_after (reading_of wish s) lent) n i ≡ next_service s rows n i
  next_read i = ap (λ (x : List ℕ). next_service s x n i) stands.1 ∙ next_front rows past n enough s i

  pub period_read : (i to : ℕ) → to ≤ n → next_period (rows_after (reading_of wish s) lent) i to ≡ next_period rows i to
  period_read i to a = ap (λ (x : List ℕ). next_period x i to) stands.1 ∙ period_front rows past n enough i to a

  pub tested_read : (v : Service) → v.from ≤ n → v.to ≤ n → tested_of s (rows_after (reading_of wish s) lent) v ≡ tested_of s rows v
  tested_read v a b = ap (λ (x : List ℕ). tested_of s x v) stands.1 ∙ tested_front rows past n enough s v a b

  pub counted_read : counted_of s (rows_after (reading_of wish s) lent) n ≡ counted_of s rows n
  counted_read = ap (λ (x : List ℕ). counted_of s x n) stands.1 ∙ counted_front rows past n enough s
