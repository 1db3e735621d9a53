-- What is answered, and what the lent buffer holds then.
-- Assumes nothing.
use Rattle.std.specs.Prelude.{Result, Ok, Err, ◌≡◌, Bool, true, false, ℕ, ◌+◌, ◌*◌, ◌/◌, ◌≤◌, ◌<◌, eqb, ltb, take}
use Rattle.std.proofs.Math.Path.{refl, sym}
use Rattle.std.proofs.Common.{ap, ◌∙◌, eq-eqb, ne_eqb, lt-ltb, le-ltb, ltb-true, ltb-false, length-take-le}
use mathlib.Core.List.{List, [], ◌∷◌, append-nil}
use native.Mathlib.Omega.{arith}
use Rattle.std.proofs.Math.ListN.{length}
use Rattle.laws.specs.Choice.{pick, either, either_true, choose}
use Rattle.laws.specs.Put.{put_at, length_put, put_no_room, put_before}
use Rattle.answers.specs.declared.Refusal.{Refusal}
use Rattle.steps.specs.declared.state.State.{State}
use Rattle.steps.specs.declared.state.Row.{Row}
use Rattle.answers.specs.Answers.{Answer, done, refused, bad_size, output_too_short}
use Rattle.answers.specs.Laws.{done≢refused, one_case}
use Rattle.steps.specs.State.{opening_state}
use Rattle.interchange.specs.Reader.{Verdict, accepted, Outcome, read_on, reading_of, numbers, read_answer, outcome_answer, rows_after}
use Rattle.interchange.specs.Laws.{length_numbers}
use Rattle.interchange.specs.Chunks.{whole_from, Filled}

-- an answer and what the buffer holds, as they are to be for an outcome
abbrev pub Right : Outcome → List ℕ → Answer ℕ → List ℕ → Type 0
Right o lent r after = (r ≡ outcome_answer o (length lent)) × (after ≡ rows_after o lent)

-- 3
pub none_read : (wish : Bool) (s lent : List ℕ) → length s ≡ 0 → Right (reading_of wish s) lent bad_size lent
unfolding reading_of outcome_answer rows_after
none_read wish s lent h = let e = eq-eqb (length s) 0 h in (rw e, rw e)

pub long_read : (wish : Bool) (s lent : List ℕ) → 60000 < length s → Right (reading_of wish s) lent bad_size lent
unfolding reading_of outcome_answer rows_after
long_read wish s lent h =
    let e : either (eqb (length s) 0) (ltb 60000 (length s)) ≡ true = rw (lt-ltb 60000 (length s) h) (either_true (eqb (length s) 0)) in
    (rw e, rw e)

pub sized_read : (wish : Bool) (s : List ℕ) → (length s ≡ 0 → ⊥) → length s ≤ 60000 → whole_from s (opening_state wish) 0 ≡ reading_of wish s
unfolding reading_of
sized_read wish s h g = rw (ne_eqb (length s) 0 h, le-ltb 60000 (length s) g)

pub right_same : (o p : Outcome) (lent : List ℕ) (r : Answer ℕ) (after : List ℕ) → o ≡ p → Right o lent r after → Right p lent r after
right_same o p lent r after e x = (x.0 ∙ ap (λ (y : Outcome). outcome_answer y (length lent)) e, x.1 ∙ ap (λ (y : Outcome). rows_after y lent) e)

-- the answer for a reading before which n numbers are gathered already, and what the buffer holds then
abbrev pub answer_behind : ℕ → List Row → ℕ → Verdict → Answer ℕ
answer_behind n rows room (done _) = pick (ltb room (n + 3 * length rows)) output_too_short (done ((n + 3 * length rows) / 3))
answer_behind n rows room (refused refusal) = refused refusal

abbrev pub rows_behind : ℕ → List Row → List ℕ → Verdict → List ℕ
rows_behind n rows lent (done _) = put_at lent n (numbers rows)
rows_behind n rows lent (refused refusal) = lent

abbrev pub Behind : ℕ → Outcome → List ℕ → Answer ℕ → List ℕ → Type 0
Behind n o lent r after = (r ≡ answer_behind n o.rows (length lent) o.verdict) × (after ≡ rows_behind n o.rows lent o.verdict)

-- with none before it is the answer itself
module _ (rows : List Row) (lent : List ℕ) where
  same_answer : (v : Verdict) → answer_behind 0 rows (length lent) v ≡ outcome_answer (record { rows = rows; verdict = v }) (length lent)
  unfolding outcome_answer
  same_answer (done _) =
      let z : 0 + 3 * length rows ≡ 3 * length rows = omega arith in
      choose (ltb (length lent) (3 * length rows)) (λ q. rw (z, q)) (λ q. rw (z, q) (ap done (omega arith)))
  same_answer (refused refusal) = refl

  same_rows : (v : Verdict) → rows_behind 0 rows lent v ≡ rows_after (record { rows = rows; verdict = v }) lent
  unfolding rows_after
  same_rows (done _) = refl
  same_rows (refused refusal) = refl

pub right_behind : (o : Outcome) (lent : List ℕ) (r : Answer ℕ) (after : List ℕ) → Behind 0 o lent r after → Right o lent r after
right_behind o lent r after b = (b.0 ∙ same_answer o.rows lent o.verdict, b.1 ∙ same_rows o.rows lent o.verdict)

-- rows that are told of fit, and the buffer is as long as it was
fits_by : (n m : ℕ) (rows : List Row) (lent : List ℕ) (v : Verdict) → done m ≡ answer_behind n rows (length lent) v
    → (n ≤ length lent) × (length (rows_behind n rows lent v) ≡ length lent)
fits_by n m rows lent (done _) q =
    choose (ltb (length lent) (n + 3 * length rows))
    (λ l. absurd (done≢refused (rw l at q)))
    (λ l.
    let g = ltb-false (length lent) (n + 3 * length rows) l in
    (omega arith, length_put lent n (numbers rows)))
fits_by n m rows lent (refused refusal) q = absurd (done≢refused q)

pub behind_fits : (n m : ℕ) (o : Outcome) (lent after : List ℕ) → Behind n o lent (done m) after → n ≤ length after
behind_fits n m o lent after b =
    let f = fits_by n m o.rows lent o.verdict b.0 in
    let e = ap length b.1 ∙ f.1 in
    let g = f.0 in
    omega arith

module _ (n : ℕ) (w : Outcome) (lent : List ℕ) where
  -- a fault
  pub behind_fault : (x : Refusal) → w.verdict ≡ refused x → Behind n w lent (refused x) lent
  behind_fault x e = (rw e, rw e)

  -- all rows are gathered, k numbers
  module _ (k : ℕ) (room : List ℕ) (f : Filled w (record { rows = []; verdict = accepted }) k room) where
    count_is : n + 3 * length w.rows ≡ n + k
    count_is = let c = f.count in omega arith

    rows_are : numbers w.rows ≡ take k room
    unfolding numbers
    rows_are = sym f.rows ∙ append-nil (take k room)

    pub behind_short : length lent < n + k → Behind n w lent output_too_short lent
    behind_short h =
        let e = sym f.verdict in
        let c = count_is in
        let l = lt-ltb (length lent) (n + k) h in
        let m = length_numbers w.rows in
        (rw (e, c, l), rw e (sym (put_no_room lent n (numbers w.rows) (omega arith))))

    pub behind_rows : n + k ≤ length lent → Behind n w lent (done ((n + k) / 3)) (put_at lent n (take k room))
    behind_rows h =
        let e = sym f.verdict in
        let c = count_is in
        let l = le-ltb (length lent) (n + k) h in
        (rw (e, c, l), rw e (ap (put_at lent n) (sym rows_are)))

  -- the room was full, and the rest was read
  module _ (k : ℕ) (room : List ℕ) (rest : Outcome) (f : Filled w rest k room) where
    behind_is : (v : Verdict) → answer_behind (n + k) rest.rows (length lent) v ≡ answer_behind n w.rows (length lent) v
    behind_is (done _) =
        let c = f.count in
        let e : n + k + 3 * length rest.rows ≡ n + 3 * length w.rows = omega arith in
        rw e
    behind_is (refused refusal) = refl

    count_same : n + k + 3 * length rest.rows ≡ n + 3 * length w.rows
    count_same = let c = f.count in omega arith

    -- a refusal leaves the buffer
    still : (x : Refusal) (v : Verdict) → refused x ≡ answer_behind (n + k) rest.rows (length lent) v
        → (rows_behind (n + k) rest.rows lent v ≡ lent) × (rows_behind n w.rows lent v ≡ lent)
    still x (done _) q =
        let c = count_same in
        choose (ltb (length lent) (n + 3 * length w.rows))
        (λ l.
        let g = ltb-true (length lent) (n + 3 * length w.rows) l in
        let a = length_numbers rest.rows in
        let b = length_numbers w.rows in
        (put_no_room lent (n + k) (numbers rest.rows) (omega arith), put_no_room lent n (numbers w.rows) (omega arith)))
        (λ l. absurd (done≢refused (sym (rw (c, l) at q))))
    still x (refused refusal) q = (refl, refl)

    pub behind_refused : (x : Refusal) (after : List ℕ) → Behind (n + k) rest lent (refused x) after → Behind n w lent (refused x) after
    behind_refused x after b =
        let q = still x rest.verdict b.0 in (
          b.0 ∙ behind_is rest.verdict ∙ ap (answer_behind n w.rows (length lent)) f.verdict,
          b.1 ∙ q.0 ∙ sym q.1 ∙ ap (rows_behind n w.rows lent) f.verdict,
        )

    rows_before : (m : ℕ) (v : Verdict) → done m ≡ answer_behind (n + k) rest.rows (length lent) v → k ≤ length room
        → put_at (rows_behind (n + k) rest.rows lent v) n (take k room) ≡ rows_behind n w.rows lent v
    rows_before m (done _) q h =
        let c = count_same in
        choose (ltb (length lent) (n + 3 * length w.rows))
        (λ l. absurd (done≢refused (rw (c, l) at q)))
        (λ l.
        let z = length-take-le k room h in
        let g = ltb-false (length lent) (n + 3 * length w.rows) l in
        let a = length_numbers rest.rows in
        ap (λ (x : ℕ). put_at (put_at lent (n + x) (numbers rest.rows)) n (take k room)) (sym z)
        ∙ put_before lent n (take k room) (numbers rest.rows) (omega arith) ∙ ap (put_at lent n) f.rows)
    rows_before m (refused refusal) q h = absurd (done≢refused q)

    pub behind_full : (m : ℕ) (after : List ℕ) → Behind (n + k) rest lent (done m) after → k ≤ length room
        → Behind n w lent (done m) (put_at after n (take k room))
    behind_full m after b h = (
      b.0 ∙ behind_is rest.verdict ∙ ap (answer_behind n w.rows (length lent)) f.verdict,
      ap (λ (x : List ℕ). put_at x n (take k room)) b.1 ∙ rows_before m rest.verdict b.0 h ∙ ap (rows_behind n w.rows lent) f.verdict,
    )

-- what `read` answers fixes its case
abbrev case : Answer ℕ → Result ℕ Refusal
case (done n) = Ok n
case (refused refusal) = Err refusal

back : (x : Result ℕ Refusal) → case (read_answer x) ≡ x
back (Ok n) = refl
back (Err x) = refl

pub reading_same : (x y : Result ℕ Refusal) → read_answer x ≡ read_answer y → x ≡ y
reading_same = one_case read_answer case back
