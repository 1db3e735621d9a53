-- A refusal of the reader has a part beside 10 alone, and there one of the six.
-- Assumes nothing.
use Rattle.std.specs.Prelude.{◌≡◌, Bool, true, List, ltb, length, Result, Ok, Err}
use Rattle.std.proofs.Math.Path.{refl}
use Rattle.std.proofs.Common.{subst}
use Prim.Native.Nat.{ℕ, zero, suc, ◌+◌}
use Rattle.laws.specs.Choice.{choose}
use Rattle.answers.specs.declared.Refusal.{Refusal}
use Rattle.answers.specs.Answers.{Answer, done, refused}
use Rattle.syntax.specs.declared.segment.ScanError.{ScanError}
use Rattle.syntax.specs.declared.segment.ScanError.TheVariants.{NotPermitted, Unended, Malformed}
use Rattle.syntax.specs.Segment.{body_at, segment_at}
use Rattle.placing.specs.Tables.{tables}
use Rattle.steps.specs.declared.state.State.{State}
use Rattle.steps.specs.State.{opening_state}
use Rattle.steps.specs.Step.{Taken, taken, segment_step}
use Rattle.steps.specs.Parts.{part_fits, Parted, step_parted}
use Rattle.interchange.specs.Reader.{is_closed, dialogue_of, headed_reference, turn_step, turn_scan, turn_at, after_turn, read_on, wrong_size, reading_of}

module _ (s : List ℕ) where
  module _ (f : ℕ) (more : (st : State) (at : ℕ) → Parted (read_on f s st at).verdict) (from : State) (at : ℕ) where
    stepped : (next : ℕ) (y : Answer Taken) → Parted y → Parted (after_turn (read_on f s) (turn_step next y)).verdict
    stepped next (done (taken st r)) p = more st next
    stepped next (refused x) p = p

    scanned : (x : Result ℕ ScanError) → Parted (after_turn (read_on f s) (turn_scan tables s from at x)).verdict
    scanned (Ok e) =
        stepped (e + 1) (segment_step tables from at (body_at s at) (dialogue_of s from) (headed_reference s from))
        (step_parted tables from at (body_at s at) (dialogue_of s from) (headed_reference s from))
    scanned (Err (NotPermitted i)) = refl
    scanned (Err Unended) = refl
    scanned (Err Malformed) = refl

    turned : Parted (after_turn (read_on f s) (turn_at tables s from at)).verdict
    unfolding turn_at
    turned = scanned (segment_at s at)

  read_parted : (f : ℕ) (st : State) (at : ℕ) → Parted (read_on f s st at).verdict
  unfolding read_on
  read_parted zero st at = refl
  read_parted (suc f) st at =
      choose (ltb at (length s))
      (λ p. choose (is_closed st.phase) (λ q. rw (p, q) refl) (λ q. rw (p, q) (turned f (read_parted f) st at)))
      (λ p. choose (is_closed st.phase) (λ q. rw (p, q) tt) (λ q. rw (p, q) refl))

pub reading_parted : (wish : Bool) (s : List ℕ) → Parted (reading_of wish s).verdict
unfolding reading_of
reading_parted wish s = choose (wrong_size s) (λ p. rw p refl) (λ p. rw p (read_parted s (length s + 1) (opening_state wish) 0))

pub reading_part : (wish : Bool) (s : List ℕ) (x : Refusal) → (reading_of wish s).verdict ≡ refused x → part_fits x ≡ true
reading_part wish s x e = subst Parted e (reading_parted wish s)
