-- One turn of the reading.
-- Assumes nothing.
use Rattle.std.specs.Prelude.{◌≡◌, List, [], ℕ, ◌-◌, ◌<◌, length, drop, Result}
use Rattle.std.proofs.Common.{sym, ap, ◌∙◌, arith}
use Rattle.laws.specs.Lists.{between_past, drop_past}
use Rattle.syntax.specs.declared.segment.ScanError.{ScanError}
use Rattle.syntax.specs.Segment.{segment_at}
use Rattle.parts.specs.declared.Part.{Part}
use Rattle.parts.specs.Places.{bytes_of}
use Rattle.placing.specs.Table.{Table}
use Rattle.steps.specs.declared.state.State.{State}
use Rattle.interchange.specs.Reader.{dialogue_of, headed_reference, turn_with, turn_scan, turn_at}

-- what is lent past the input's end is empty
pub lent_past : (s : List ℕ) (at : ℕ) (p : Part) → length s < at → [] ≡ bytes_of (drop at s) p
lent_past s at p h = sym (ap (λ (x : List ℕ). bytes_of x p) (drop_past s at (omega arith)) ∙ between_past {A = ℕ} [] p.from p.to (omega arith))

-- by what the scan found
pub turn_is : (t : Table) (s : List ℕ) (st : State) (at : ℕ) (x : Result ℕ ScanError) → segment_at s at ≡ x → turn_scan t s st at x ≡ turn_at t s st at
unfolding turn_at
turn_is t s st at x e = ap (turn_scan t s st at) (sym e)

pub with_is : (t : Table) (s d r : List ℕ) (st : State) (at : ℕ) (x : Result ℕ ScanError) → segment_at s at ≡ x → turn_with t s d r st at x ≡ turn_with t s d r st at (segment_at s at)
with_is t s d r st at x e = ap (turn_with t s d r st at) (sym e)

-- with its own references lent it is the turn
pub turn_lent : (t : Table) (s d r : List ℕ) (st : State) (at : ℕ) → d ≡ dialogue_of s st → r ≡ headed_reference s st → turn_with t s d r st at (segment_at s at) ≡ turn_at t s st at
unfolding turn_at
turn_lent t s d r st at e f =
    ap (λ (x : List ℕ). turn_with t s x r st at (segment_at s at)) e
    ∙ ap (λ (x : List ℕ). turn_with t s (dialogue_of s st) x st at (segment_at s at)) f
