-- What the agreement with the whole reader is about: an interchange whose segments have 4,096 bytes at most, and the answer of a whole reading (document 02, A1).
-- Assumes nothing.
use Rattle.std.specs.Prelude.{ℕ, ◌+◌, Bool, true, false, List, [], ◌∷◌, ltb, length}
use Rattle.laws.specs.Choice.{pick, both}
use Rattle.answers.specs.Answers.{Answer, done, refused}
use Rattle.syntax.specs.Bytes.{terminator, releases, stands}
use Rattle.interchange.specs.Reader.{Outcome, Verdict}

-- "This mode limits a segment to 4,096 bytes", its terminator counted: no segment has a byte 4,097.
-- n bytes of a segment came before, and r says whether the next is released.
unfoldable pub fits_on : ℕ → Bool → List ℕ → Bool
fits_on n r [] = true
fits_on n r (b ∷ l) = both (ltb n 4096) (pick (stands terminator r b) (fits_on 0 false l) (fits_on (n + 1) (releases r b) l))

abbrev pub segments_fit : List ℕ → Bool
segments_fit s = fits_on 0 false s

-- what a whole reading answers, given room for the rows: how many there are, or the refusal
abbrev pub verdict_of : ℕ → Verdict → Answer ℕ
verdict_of n (done _) = done n
verdict_of n (refused refusal) = refused refusal

abbrev pub whole_answer : Outcome → Answer ℕ
whole_answer o = verdict_of (length o.rows) o.verdict
