-- Eight bytes of a list as one number.
-- Assumes nothing.
use Rattle.std.specs.Prelude.{◌≡◌, List, Option, Some, None, ℕ, ◌+◌, ◌≤◌, ◌<◌, length, get_or}
use Rattle.std.proofs.Common.{subst}
use Rattle.laws.specs.Words.{word_of, Every, none, one, Byte}
use Rattle.laws.specs.Eight.{eight_at}

-- the number w is that of the eight bytes from an index on
pub record Eights (s : List ℕ) (at w : ℕ) : Type 0 where
  pub inside : at + 8 ≤ length s
  pub is : w ≡ word_of (eight_at s at)
  pub byte₀ : get_or s at 0 < 256
  pub byte₁ : get_or s (at + 1) 0 < 256
  pub byte₂ : get_or s (at + 2) 0 < 256
  pub byte₃ : get_or s (at + 3) 0 < 256
  pub byte₄ : get_or s (at + 4) 0 < 256
  pub byte₅ : get_or s (at + 5) 0 < 256
  pub byte₆ : get_or s (at + 6) 0 < 256
  pub byte₇ : get_or s (at + 7) 0 < 256

-- there are so many, and this is their number; or there are not
abbrev pub EightTold : List ℕ → ℕ → Option ℕ → Type 0
EightTold s at (Some w) = Eights s at w
EightTold s at None = length s < at + 8

pub eights_known : (s : List ℕ) (at : ℕ) {r : Option ℕ} {w : ℕ} → EightTold s at r → r ≡ Some w → Eights s at w
eights_known s at t e = subst (EightTold s at) e t

pub fewer_known : (s : List ℕ) (at : ℕ) {r : Option ℕ} → EightTold s at r → r ≡ None → length s < at + 8
fewer_known s at t e = subst (EightTold s at) e t

-- it is known by its bytes, and they by it
pub eights_of : (s : List ℕ) (at : ℕ) {w : ℕ} → at + 8 ≤ length s → w ≡ word_of (eight_at s at) → Every Byte (eight_at s at) → Eights s at w
eights_of s at h e (one b₀ (one b₁ (one b₂ (one b₃ (one b₄ (one b₅ (one b₆ (one b₇ none)))))))) =
    record { inside = h; is = e; byte₀ = b₀; byte₁ = b₁; byte₂ = b₂; byte₃ = b₃; byte₄ = b₄; byte₅ = b₅; byte₆ = b₆; byte₇ = b₇ }

pub eights_bytes : (s : List ℕ) (at : ℕ) {w : ℕ} → Eights s at w → Every Byte (eight_at s at)
eights_bytes s at e =
    one e.byte₀ (one e.byte₁ (one e.byte₂ (one e.byte₃ (one e.byte₄ (one e.byte₅ (one e.byte₆ (one e.byte₇ none)))))))
