-- What is found, by what the scan of a segment comes to; and that the reader never walks back. Assumes nothing.
use Rattle.std.proofs.Math.Path.{◌≡◌, refl, ap}
use Rattle.std.proofs.Common.{sym, arith, le-leb}
use Rattle.std.specs.Prelude.{List, leb, length, Option, Some, None, Result, Ok, Err}
use Prim.Native.Nat.{ℕ, zero, suc, ◌+◌, ◌≤◌, ◌<◌}
use Rattle.std.proofs.Math.Numerals.{add-one}
use Rattle.std.proofs.Math.Nat.{zero-add, suc-add}
use Rattle.std.proofs.lemmas.Bool.{lt-leb}
use Rattle.laws.specs.Choice.{choose}
use Rattle.syntax.specs.declared.segment.ScanError.{ScanError}
use Rattle.syntax.specs.Segment.{segment_at}
use Rattle.syntax.specs.Ends.{end_within}
use Rattle.answers.specs.declared.Refusal.{Refusal}
use Rattle.lent.specs.declared.Segment.{Segment}
use Rattle.lent.specs.Lent.{scanned_found, segment_found, after_found, offset_after, offset_past}

module _ (s : List ℕ) (at : ℕ) where
  pub found_over : length s ≤ at → Ok None ≡ segment_found s at
  unfolding segment_found
  found_over h = rw (le-leb (length s) at h)

  pub found_told : (x : Result ℕ ScanError) → at < length s → segment_at s at ≡ x → scanned_found s at x ≡ segment_found s at
  unfolding segment_found
  found_told x h e = rw (lt-leb (length s) at h) (ap (scanned_found s at) (sym e))

  pub after_found_lem : (x : Result (Option Segment) Refusal) → segment_found s at ≡ x → after_found at x ≡ offset_after s at
  unfolding offset_after
  after_found_lem x e = ap (after_found at) (sym e)

  told_forward : (x : Result ℕ ScanError) → segment_at s at ≡ x → at ≤ after_found at (scanned_found s at x)
  told_forward (Ok e) q = let w = end_within s at e q in omega arith
  told_forward (Err error) q = omega arith

  -- "The reader walks forward only"
  pub after_forward : at ≤ offset_after s at
  unfolding offset_after segment_found
  after_forward = choose (leb (length s) at) (λ yes. rw yes (omega arith)) (λ no. rw no (told_forward (segment_at s at) refl))

  told_within : (x : Result ℕ ScanError) (g : Segment) → segment_at s at ≡ x → scanned_found s at x ≡ Ok (Some g) → (at + 4 ≤ g.after) × (g.after ≤ length s)
  told_within (Ok e) g q t =
      let w = end_within s at e q in
      let same : e + 1 ≡ g.after = ap (after_found at) t in
      (omega arith, omega arith)
  told_within (Err error) g q t = let z : ◌≡◌ {A = ℕ} 0 1 = cc in absurd (omega arith)

  -- a segment is passed whole, its tag and its terminator at least, and never past the interchange
  pub found_within : (g : Segment) → segment_found s at ≡ Ok (Some g) → (at + 4 ≤ g.after) × (g.after ≤ length s)
  unfolding segment_found
  found_within g e =
      choose (leb (length s) at)
      (λ yes. let o : Ok None ≡ Ok (Some g) = rw yes at e in let z : ◌≡◌ {A = ℕ} 0 1 = cc in absurd (omega arith))
      (λ no. told_within (segment_at s at) g refl (rw no at e))

module _ (s : List ℕ) where
  pub past_none : offset_past s 0 ≡ 0
  unfolding offset_past
  past_none = refl

  pub past_next : (n : ℕ) → offset_past s (n + 1) ≡ offset_after s (offset_past s n)
  unfolding offset_past
  past_next n = rw add-one

  -- after more segments the reader stands no nearer to the interchange's beginning
  pub past_forward : (n k : ℕ) → offset_past s n ≤ offset_past s (k + n)
  unfolding offset_past
  past_forward n zero = rw zero-add (omega arith)
  past_forward n (suc k) = rw suc-add (let h = past_forward n k in let f = after_forward s (offset_past s (k + n)) in omega arith)
