-- What a walk along a piece tells.
-- Assumes nothing.
use Rattle.std.specs.Prelude.{◌≡◌, true, false, List, ℕ, ◌+◌, ◌-◌, ◌≤◌, ◌<◌, min, length, get_or}
use Rattle.std.proofs.Common.{sym, ap, subst, ◌∙◌, inl, arith, eq-eqb, ne_eqb}
use Rattle.std.proofs.Math.Decide.{dec_lt}
use Rattle.laws.specs.Lists.{between, between_all}
use Rattle.syntax.specs.Pieces.{first_piece}
use Rattle.parts.specs.Cuts.{cut_end, piece_past, piece_ends, piece_released, piece_goes}
use Rattle.std.specs.declared.ops.ControlFlow.{ControlFlow}
use Rattle.std.specs.declared.ops.ControlFlow.TheVariants.{Break, Continue}

-- the piece ends there; or it goes on from there, past where it started and before the end of the part
abbrev pub WalkTold : List ℕ → ℕ → ℕ → ℕ → ControlFlow ℕ ℕ → Type 0
WalkTold s from to c (Break e) = e ≡ cut_end s from to c
WalkTold s from to c (Continue k) = (from < k) × (k < to) × (cut_end s k to c ≡ cut_end s from to c)

pub ends_known : (s : List ℕ) (from to c : ℕ) {r : ControlFlow ℕ ℕ} {e : ℕ} → WalkTold s from to c r → r ≡ Break e → e ≡ cut_end s from to c
ends_known s from to c t q = subst (WalkTold s from to c) q t

pub goes_known : (s : List ℕ) (from to c : ℕ) {r : ControlFlow ℕ ℕ} {k : ℕ} → WalkTold s from to c r → r ≡ Continue k → (from < k) × (k < to) × (cut_end s k to c ≡ cut_end s from to c)
goes_known s from to c t q = subst (WalkTold s from to c) q t

-- an end past the list's is its end
pub cut_least : (s : List ℕ) (i b c : ℕ) → cut_end s i (min (length s) b) c ≡ cut_end s i b c
cut_least s i b c =
    elim (dec_lt (length s) b) [
      | yes h ↦
          let e : min (length s) b ≡ length s = omega arith in
          rw e (ap (λ (l : List ℕ). i + length (first_piece c false l)) (between_all s i b (omega arith)))
      | no h ↦ let e : min (length s) b ≡ b = omega arith in rw e
    ]

-- the steps of a walk
pub cut_none : (s : List ℕ) (i b c : ℕ) → b ≤ i → i ≡ cut_end s i b c
cut_none s i b c h = let e = piece_past s i b c false (inl h) in omega arith

module _ (s : List ℕ) (i b c : ℕ) (h : i < b) (g : b ≤ length s) where
  pub cut_here : get_or s i 0 ≡ c → i ≡ cut_end s i b c
  cut_here q = let e = piece_ends s i b c h (omega arith) q in omega arith

  module _ (n : get_or s i 0 ≡ c → ⊥) where
    pub cut_on : (get_or s i 0 ≡ 63 → ⊥) → cut_end s (i + 1) b c ≡ cut_end s i b c
    cut_on q = sym (rw (ne_eqb (get_or s i 0) 63 q) at (piece_goes s i b c h (omega arith) n))

    module _ (q : get_or s i 0 ≡ 63) where
      past_release_lem : cut_end s i b c ≡ i + 1 + length (first_piece c true (between s (i + 1) b))
      past_release_lem = rw (eq-eqb (get_or s i 0) 63 q) at (piece_goes s i b c h (omega arith) n)

      pub cut_last : b - i < 2 → b ≡ cut_end s i b c
      cut_last l =
          let e = piece_past s (i + 1) b c true (inl (omega arith)) in
          let f = past_release_lem in
          omega arith

      pub cut_released : 2 ≤ b - i → cut_end s (i + 2) b c ≡ cut_end s i b c
      cut_released l =
          let j : i + 1 + 1 ≡ i + 2 = omega arith in
          sym (past_release_lem ∙ (rw j at (piece_released s (i + 1) b c (omega arith) (omega arith))))
