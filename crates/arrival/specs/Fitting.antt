-- A segment in a text: its bytes up to its terminator, the text behind it, and the limit of 4,096 bytes.
-- Assumes nothing.
use Rattle.std.specs.Prelude.{◌≡◌, refl, Bool, true, false, List, [], ◌∷◌, ◌++◌, ℕ, suc, ◌+◌, ◌≤◌, ◌<◌, ltb, length, drop}
use Rattle.std.proofs.Common.{ap, ◌∙◌, arith, not-suc-le-zero, take_all, eqb-true, ltb-true, lt-ltb}
use Rattle.laws.specs.Choice.{pick, choose, both_parts, false≢true}
use Rattle.syntax.specs.Bytes.{terminator, releases, stands}
use Rattle.syntax.specs.Pieces.{first_piece}
use Rattle.syntax.specs.Firsts.{first_take}
use Rattle.syntax.specs.Segment.{body_answer}
use Rattle.arrival.specs.Fits.{fits_on}

stands_is : (r : Bool) (b : ℕ) → stands terminator r b ≡ true → (r ≡ false) × (b ≡ terminator)
stands_is true b q = absurd (false≢true q)
stands_is false b q = (refl, eqb-true b terminator q)

-- no terminator stands among the bytes before the first
pub first_first : (r : Bool) (l : List ℕ) → first_piece terminator r (first_piece terminator r l) ≡ first_piece terminator r l
unfolding first_piece
first_first r [] = refl
first_first r (b ∷ l) =
    choose (stands terminator r b) (λ q. rw q) (λ q. rw q (rw q (ap (λ (x : List ℕ). b ∷ x) (first_first (releases r b) l))))

-- a text in which none stands is all one piece
pub first_all : (r : Bool) (l : List ℕ) → length l ≤ length (first_piece terminator r l) → first_piece terminator r l ≡ l
first_all r l h = first_take terminator r l ∙ take_all (length (first_piece terminator r l)) l h

-- the first that stands: it parts the text in two, and what is behind it does not matter to what is before it
pub first_cut : (r : Bool) (l : List ℕ) → length (first_piece terminator r l) < length l
    → l ≡ first_piece terminator r l ++ (terminator ∷ drop (suc (length (first_piece terminator r l))) l)
unfolding first_piece
first_cut r [] h = absurd (not-suc-le-zero h)
first_cut r (b ∷ l) h =
    choose (stands terminator r b) (λ q. rw q (ap (λ (x : ℕ). x ∷ l) (stands_is r b q).1))
    (λ q. let g = rw q at h in rw q (ap (λ (x : List ℕ). b ∷ x) (first_cut (releases r b) l (omega arith))))

pub first_again : (r : Bool) (l rest : List ℕ) → length (first_piece terminator r l) < length l
    → first_piece terminator r (first_piece terminator r l ++ (terminator ∷ rest)) ≡ first_piece terminator r l
unfolding first_piece
first_again r [] rest h = absurd (not-suc-le-zero h)
first_again r (b ∷ l) rest h =
    choose (stands terminator r b)
    (λ q. rw q (ap (λ (x : Bool). pick (stands terminator x terminator) [] (terminator ∷ first_piece terminator (releases x terminator) rest)) (stands_is r b q).0))
    (λ q. let g = rw q at h in rw q (rw q (ap (λ (x : List ℕ). b ∷ x) (first_again (releases r b) l rest (omega arith)))))

-- the limit
pub fits_within : (n : ℕ) (r : Bool) (l : List ℕ) → n ≤ 4096 → fits_on n r l ≡ true → n + length (first_piece terminator r l) ≤ 4096
unfolding first_piece fits_on
fits_within n r [] h q = omega arith
fits_within n r (b ∷ l) h q =
    let w = both_parts (ltb n 4096) (pick (stands terminator r b) (fits_on 0 false l) (fits_on (n + 1) (releases r b) l)) q in
    let k = ltb-true n 4096 w.0 in
    choose (stands terminator r b) (λ p. rw p (omega arith))
    (λ p. let i = fits_within (n + 1) (releases r b) l (omega arith) (rw p at w.1) in rw p (omega arith))

pub fits_ended : (n : ℕ) (r : Bool) (l : List ℕ) → fits_on n r l ≡ true → length (first_piece terminator r l) < length l
    → (n + length (first_piece terminator r l) + 1 ≤ 4096) × (fits_on 0 false (drop (suc (length (first_piece terminator r l))) l) ≡ true)
unfolding first_piece fits_on
fits_ended n r [] q h = absurd (not-suc-le-zero h)
fits_ended n r (b ∷ l) q h =
    let w = both_parts (ltb n 4096) (pick (stands terminator r b) (fits_on 0 false l) (fits_on (n + 1) (releases r b) l)) q in
    let k = ltb-true n 4096 w.0 in
    choose (stands terminator r b) (λ p. rw p (omega arith, rw p at w.1))
    (λ p.
    let g = rw p at h in
    let i = fits_ended (n + 1) (releases r b) l (rw p at w.1) (omega arith) in
    rw p (omega arith, i.1))

-- how long the text is behind a segment's terminator does not matter to its answer
pub answer_ended : (n m at : ℕ) (g : List ℕ) → at + length g < n → at + length g < m → body_answer n at g ≡ body_answer m at g
unfolding body_answer
answer_ended n m at g h k = rw (lt-ltb (at + length g) n h, lt-ltb (at + length g) m k)
