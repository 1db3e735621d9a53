-- Document 02, A2: "The wish is part of the input in demand 2, of the call in demand 3." For stage it decides what the reader refuses and nothing else: of a file that is
-- accepted unasked, the caller who asks stages the same.
-- Assumes nothing.
use Rattle.std.specs.Prelude.{◌≡◌, true, false, List, ℕ, length}
use Rattle.std.proofs.Common.{ap}
use Rattle.answers.specs.declared.Refusal.{Refusal}
use Rattle.answers.specs.Answers.{refused}
use Rattle.interchange.specs.Reader.{Outcome, accepted, reading_of, numbers}
use Rattle.acceptance.specs.Wishes.{reading_asked}
use Rattle.contents.specs.Calls.{View, Called, refused_call}
use Rattle.stages.specs.Stage.{stage_by, stage_of}

-- what stage does with what a reading comes to
abbrev staged_by : List ℕ → View → Outcome → Called
staged_by s v o = stage_by s (numbers o.rows) (length o.rows) o.verdict v

pub stage_asked : (s : List ℕ) (v : View) → (reading_of false s).verdict ≡ accepted → stage_of true s v ≡ stage_of false s v
unfolding stage_of
stage_asked s v q = ap (staged_by s v) (reading_asked s q)

-- any other file is refused unasked, by what the reader says, and changes nothing
pub stage_unasked : (s : List ℕ) (v : View) (x : Refusal) → (reading_of false s).verdict ≡ refused x → stage_of false s v ≡ refused_call v (refused x)
unfolding stage_of
stage_unasked s v x q = rw q
