-- A text cut at a mark: into lines at the newline, a line into fields at the tab.
-- Assumes nothing.
use Prim.Native.Nat.{ℕ, zero, suc, ◌+◌, ◌-◌, ◌≤◌, ◌<◌}
use Rattle.std.specs.Prelude.{◌≡◌, refl, List, [], ◌∷◌, eqb, ltb, get_or, take, drop}
use Rattle.std.proofs.Common.{sym}
use Rattle.std.proofs.Math.Path.{ap}
use native.Mathlib.Omega.{arith}
use Rattle.std.proofs.Math.ListN.{length, length-drop}
use borrow.Author.Tests.{eq-eqb, ne_eqb, lt-ltb, le-ltb, ltb-true, ltb-false}
use Rattle.laws.specs.Choice.{pick, choose}
use Rattle.laws.specs.Lists.{between, drop_here, drop_past}

-- the bytes before the first mark, all where there is none
unfoldable pub before_byte : ℕ → List ℕ → List ℕ
before_byte mark [] = []
before_byte mark (b ∷ l) = pick (eqb b mark) [] (b ∷ before_byte mark l)

-- the piece that starts at an index, and where it ends
abbrev pub piece_text : List ℕ → ℕ → ℕ → List ℕ
piece_text s from mark = before_byte mark (drop from s)

unfoldable pub end_at : List ℕ → ℕ → ℕ → ℕ
end_at s from mark = from + length (piece_text s from mark)

-- where the next piece starts: past the mark, or at the end
unfoldable pub past_at : List ℕ → ℕ → ℕ → ℕ
past_at s from mark = pick (ltb (end_at s from mark) (length s)) (end_at s from mark + 1) (end_at s from mark)

-- the start of the k-th piece from an index on, counted from 0
unfoldable pub start_at : List ℕ → ℕ → ℕ → ℕ → ℕ
start_at s from mark zero = from
start_at s from mark (suc k) = start_at s (past_at s from mark) mark k

-- the fields of a line are parted by tabs
abbrev pub field_at : List ℕ → ℕ → ℕ
field_at line k = start_at line 0 9 k

-- the ways through the search of a mark
module _ (s : List ℕ) (i mark : ℕ) where
  pub end_none : length s ≤ i → end_at s i mark ≡ i
  unfolding end_at before_byte
  end_none h = rw (drop_past s i h) (omega arith)

  module _ (h : i < length s) where
    pub end_here : get_or s i 0 ≡ mark → end_at s i mark ≡ i
    unfolding end_at before_byte
    end_here q = rw (drop_here s i h, eq-eqb (get_or s i 0) mark q) (omega arith)

    pub end_on : (get_or s i 0 ≡ mark → ⊥) → end_at s i mark ≡ end_at s (i + 1) mark
    unfolding end_at before_byte
    end_on q = rw (drop_here s i h, ne_eqb (get_or s i 0) mark q) (omega arith)

-- the ways through the search of a field
module _ (s : List ℕ) (at mark left : ℕ) where
  pub start_none : left ≤ 0 → start_at s at mark left ≡ at
  unfolding start_at
  start_none h =
      let e : left ≡ 0 = omega arith in
      rw e

  pub start_step : 0 < left → start_at s at mark left ≡ start_at s (past_at s at mark) mark (left - 1)
  unfolding start_at
  start_step h =
      let e : left ≡ suc (left - 1) = omega arith in
      ap (λ (k : ℕ). start_at s at mark k) e

before_length : (mark : ℕ) (l : List ℕ) → length (before_byte mark l) ≤ length l
unfolding before_byte
before_length mark [] = omega arith
before_length mark (b ∷ l) =
    let h = before_length mark l in
    choose (eqb b mark) (λ q. rw q (omega arith)) (λ q. rw q (omega arith))

before_front : (mark : ℕ) (l : List ℕ) → take (length (before_byte mark l)) l ≡ before_byte mark l
unfolding before_byte
before_front mark [] = refl
before_front mark (b ∷ l) = choose (eqb b mark) (λ q. rw q) (λ q. rw q (ap (λ (x : List ℕ). b ∷ x) (before_front mark l)))

module _ (s : List ℕ) (from mark : ℕ) where
  -- a piece ends inside the text
  pub end_within : from ≤ length s → (from ≤ end_at s from mark) × (end_at s from mark ≤ length s)
  unfolding end_at
  end_within h =
      let a = before_length mark (drop from s) in
      let b = length-drop from s in
      (omega arith, omega arith)

  -- its bytes
  pub piece_between : (e : ℕ) → e ≡ end_at s from mark → between s from e ≡ piece_text s from mark
  unfolding end_at
  piece_between e q =
      let d : e - from ≡ length (before_byte mark (drop from s)) = omega arith in
      rw d (before_front mark (drop from s))

  pub piece_none : length s ≤ from → [] ≡ piece_text s from mark
  unfolding before_byte
  piece_none h = rw (drop_past s from h)

  pub past_some : (e : ℕ) → e ≡ end_at s from mark → e < length s → e + 1 ≡ past_at s from mark
  unfolding past_at
  past_some e q h = rw (sym q, lt-ltb e (length s) h)

  pub past_none : (e : ℕ) → e ≡ end_at s from mark → length s ≤ e → e ≡ past_at s from mark
  unfolding past_at
  past_none e q h = rw (sym q, le-ltb e (length s) h)

  -- the next piece starts further on, and inside the text or at its end
  pub past_forward : from < length s → (from < past_at s from mark) × (past_at s from mark ≤ length s)
  unfolding past_at
  past_forward h =
      let w = end_within (omega arith) in
      choose (ltb (end_at s from mark) (length s))
      (λ q. let b = ltb-true (end_at s from mark) (length s) q in rw q (omega arith, omega arith))
      (λ q. let b = ltb-false (end_at s from mark) (length s) q in rw q (omega arith, omega arith))
