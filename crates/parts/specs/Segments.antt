-- Where a segment stands: up to its terminator, or to the input's end.
-- Assumes nothing.
use Rattle.std.specs.Prelude.{ℕ, ◌+◌, ◌-◌, ◌≤◌, ◌<◌, ◌≡◌, Bool, true, false, List, eqb, length, get_or, drop}
use Rattle.std.proofs.Common.{sym, ap, subst, ◌∙◌, arith}
use borrow.Author.Tests.{eq-eqb, ne_eqb}
use Rattle.laws.specs.Lists.{drop_here, drop_past}
use Rattle.syntax.specs.Bytes.{terminator, release_mark}
use Rattle.syntax.specs.Pieces.{first_piece}
use Rattle.syntax.specs.Firsts.{first_take}
use Rattle.syntax.specs.Segment.{body_at}
use Rattle.syntax.specs.Found.{end_from, end_body}
use Rattle.parts.specs.declared.Part.{Part}
use Rattle.parts.specs.Places.{bytes_of, segment_of}

-- one byte of a segment at an index of the input
module _ (s : List ℕ) (i : ℕ) where
  pub body_past : (r : Bool) → length s ≤ i → length (first_piece terminator r (drop i s)) ≡ 0
  unfolding first_piece
  body_past r h = rw (drop_past s i h)

  module _ (h : i < length s) where
    pub body_here : get_or s i 0 ≡ terminator → length (first_piece terminator false (drop i s)) ≡ 0
    unfolding first_piece
    body_here q = rw (drop_here s i h, eq-eqb (get_or s i 0) terminator q)

    pub body_released : i + length (first_piece terminator true (drop i s)) ≡ i + 1 + length (first_piece terminator false (drop (i + 1) s))
    unfolding first_piece
    body_released = rw (drop_here s i h) (omega arith)

    pub body_goes : (get_or s i 0 ≡ terminator → ⊥) → i + length (first_piece terminator false (drop i s)) ≡ i + 1 + length (first_piece terminator (eqb (get_or s i 0) release_mark) (drop (i + 1) s))
    unfolding first_piece
    body_goes q = rw (drop_here s i h, ne_eqb (get_or s i 0) terminator q) (omega arith)

-- where it stands
pub segment_is : (s : List ℕ) (at to : ℕ) → to ≡ at + length (body_at s at) → record { from = at; to = to } ≡ segment_of s at
segment_is s at to q = ap (λ (x : ℕ). record { from = at; to = x }) q

pub segment_ended : (s : List ℕ) (at to : ℕ) → to ≡ end_from s at → to < length s → record { from = at; to = to } ≡ segment_of s at
segment_ended s at to q h = segment_is s at to (q ∙ end_body s at (subst (λ (x : ℕ). x < length s) q h))

-- and its bytes
pub segment_bytes : (s : List ℕ) (at : ℕ) → bytes_of s (segment_of s at) ≡ body_at s at
segment_bytes s at =
    let e : at + length (body_at s at) - at ≡ length (body_at s at) = omega arith in
    rw e (sym (first_take terminator false (drop at s)))

-- the bytes of a segment that was found
pub segment_body : (s : List ℕ) (at : ℕ) (p : Part) → p ≡ segment_of s at → bytes_of s p ≡ body_at s at
segment_body s at p q = ap (bytes_of s) q ∙ segment_bytes s at
