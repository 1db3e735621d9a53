-- A segment in a text: where it is read, and what is read.
-- Assumes nothing.
use Rattle.std.specs.Prelude.{◌≡◌, refl, Bool, true, false, not, List, [], ◌∷◌, ◌++◌, ℕ, suc, ◌+◌, ◌≤◌, ◌<◌, drop, Ok}
use Rattle.std.proofs.Common.{sym, ◌∙◌, arith, not-suc-le-zero, length-append, length-drop, drop-drop}
use Rattle.std.proofs.Math.Path.{ap}
use Rattle.std.proofs.Math.ListN.{length}
use Rattle.std.proofs.Math.Seq.{drop-append-add}
use borrow.Author.Tests.{not-true, lt-ltb, eqb-true}
use Rattle.laws.specs.Choice.{both, all, choose, both_parts, false≢true}
use Rattle.syntax.specs.Bytes.{permitted_of, releases, stands}
use Rattle.syntax.specs.Pieces.{first_piece}
use Rattle.syntax.specs.Segment.{body_at, well_formed, scan_of, segment_at}
use Rattle.syntax.specs.Ends.{ended, end_within}
use Rattle.acceptance.specs.Interchange.{unbroken, is_segment}

-- what a segment's test says
pub segment_parts : (g : List ℕ) → is_segment g ≡ true → (unbroken false g ≡ true) × (all permitted_of g ≡ true) × (well_formed g ≡ true)
unfolding is_segment
segment_parts g q =
    let a = both_parts (unbroken false g) (both (all permitted_of g) (well_formed g)) q in
    let b = both_parts (all permitted_of g) (well_formed g) a.1 in
    (a.0, b.0, b.1)

-- a segment before its terminator is what is read up to there
pub first_whole : (r : Bool) (g rest : List ℕ) → unbroken r g ≡ true → first_piece 39 r (g ++ (39 ∷ rest)) ≡ g
unfolding first_piece unbroken
first_whole true [] rest u = absurd (false≢true u)
first_whole false [] rest u = refl
first_whole r (b ∷ g) rest u =
    let w = both_parts (not (stands 39 r b)) (unbroken (releases r b) g) u in
    rw (not-true (stands 39 r b) w.0) (ap (λ (x : List ℕ). b ∷ x) (first_whole (releases r b) g rest w.1))

-- and what is read up to a terminator is a segment before it
stands_is : (r : Bool) (b : ℕ) → stands 39 r b ≡ true → (not r ≡ true) × (b ≡ 39)
stands_is true b q = absurd (false≢true q)
stands_is false b q = (refl, eqb-true b 39 q)

abbrev Cuts : Bool → List ℕ → List ℕ → Type 0
Cuts r l g = (unbroken r g ≡ true) × (l ≡ g ++ (39 ∷ drop (suc (length g)) l))

first_cuts : (r : Bool) (l : List ℕ) → length (first_piece 39 r l) < length l → Cuts r l (first_piece 39 r l)
unfolding first_piece unbroken
first_cuts r [] h = absurd (not-suc-le-zero h)
first_cuts r (b ∷ l) h =
    choose (stands 39 r b) (λ q. let w = stands_is r b q in rw q (w.0, ap (λ (x : ℕ). x ∷ l) w.1))
    (λ q.
    let g = rw q at h in
    let w = first_cuts (releases r b) l (omega arith) in
    rw q (rw q w.0, ap (λ (x : List ℕ). b ∷ x) w.1))

module _ (s : List ℕ) (at : ℕ) (g rest : List ℕ) (e : drop at s ≡ g ++ (39 ∷ rest)) where
  pub segment_fits : at + length g + 1 + length rest ≡ length s
  segment_fits =
      let d = length-drop at s in
      let a = ap length e in
      let b = length-append g (39 ∷ rest) in
      omega arith

  pub after_segment : drop (at + length g + 1) s ≡ rest
  after_segment =
      let n : at + length g + 1 ≡ at + (length g + 1) = omega arith in
      ap (λ (x : ℕ). drop x s) n ∙ sym (drop-drop (length g + 1) at s) ∙ ap (drop (length g + 1)) e ∙ drop-append-add g (39 ∷ rest) 1

  module _ (ok : is_segment g ≡ true) where
    pub body_is : body_at s at ≡ g
    body_is = ap (first_piece 39 false) e ∙ first_whole false g rest (segment_parts g ok).0

    pub segment_is : segment_at s at ≡ Ok (at + length g)
    unfolding scan_of
    segment_is =
        let p = segment_parts g ok in
        let n = segment_fits in
        ap (scan_of (length s) at) body_is ∙ rw (p.1, lt-ltb (at + length g) (length s) (omega arith), p.2)

-- what is read up to an end
pub record Cut (s : List ℕ) (at : ℕ) (g : List ℕ) : Type 0 where
  pub segment : is_segment g ≡ true
  pub text : drop at s ≡ g ++ (39 ∷ drop (at + length g + 1) s)
  pub fits : at + length g + 1 ≤ length s
  pub long : 3 ≤ length g

pub cut_at : (s : List ℕ) (at e : ℕ) → segment_at s at ≡ Ok e → (e ≡ at + length (body_at s at)) × Cut s at (body_at s at)
unfolding is_segment
cut_at s at e q =
    let w = ended s at e q in
    let i = end_within s at e q in
    let p = w.place in
    let d = length-drop at s in
    let c = first_cuts false (drop at s) (omega arith) in
    let n : at + suc (length (body_at s at)) ≡ at + length (body_at s at) + 1 = omega arith in (
      p,
      record {
        segment = rw (c.0, w.fine) w.formed;
        text = c.1 ∙ ap (λ (x : List ℕ). body_at s at ++ (39 ∷ x)) (drop-drop (suc (length (body_at s at))) at s ∙ ap (λ (x : ℕ). drop x s) n);
        fits = omega arith;
        long = omega arith;
      },
    )
