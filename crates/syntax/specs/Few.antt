-- A segment with few marks and few characters passes no limit.
-- Assumes nothing.
use Rattle.std.specs.Prelude.{◌≡◌, Bool, true, ℕ, zero, suc, ◌+◌, ◌-◌, ◌≤◌, ◌<◌, eqb, length, get_or, take, drop}
use Rattle.std.proofs.Math.Path.{refl}
use Rattle.std.proofs.Common.{ap, ◌∙◌, arith, eqb→eq, le-leb, eqb-true, drop-drop}
use Rattle.std.proofs.Math.Bool.{false}
use mathlib.Core.List.{List, [], ◌∷◌}
use mir.Val.{bool_byte}
use Rattle.std.specs.Int.Bits.{bit_or}
use Rattle.laws.specs.Choice.{pick, all, choose}
use Rattle.laws.specs.Lists.{between, drop_here, drop_past}
use Rattle.laws.specs.Sweep.{at}
use Rattle.syntax.specs.Bytes.{stands, releases, plain_on, plain, is_mark}
use Rattle.syntax.specs.Pieces.{first_piece, later_pieces}
use Rattle.syntax.specs.Firsts.{first_length}
use Rattle.syntax.specs.Segment.{component_fits, occurrence_fits, element_fits, within_limits}

-- how many bytes of a text are `+`, `*` or `:`, released or not
unfoldable pub marks_in : List ℕ → ℕ
marks_in [] = 0
marks_in (b ∷ l) = pick (is_mark b) 1 0 + marks_in l

pub marks_past : (s : List ℕ) (i : ℕ) → length s ≤ i → marks_in (drop i s) ≡ 0
unfolding marks_in
marks_past s i h = rw (drop_past s i h)

pub marks_here : (s : List ℕ) (i : ℕ) → i < length s → marks_in (drop i s) ≡ pick (is_mark (get_or s i 0)) 1 0 + marks_in (drop (i + 1) s)
unfolding marks_in
marks_here s i h = rw (drop_here s i h)

unit : (p : Bool) → pick p 1 0 ≤ 1
unit true = omega arith
unit false = omega arith

pub marks_length : (l : List ℕ) → marks_in l ≤ length l
unfolding marks_in
marks_length [] = omega arith
marks_length (b ∷ l) =
    let h = marks_length l in
    let u = unit (is_mark b) in
    omega arith

first_marks : (c : ℕ) (r : Bool) (l : List ℕ) → marks_in (first_piece c r l) ≤ marks_in l
unfolding first_piece marks_in
first_marks c r [] = omega arith
first_marks c r (b ∷ l) =
    choose (stands c r b) (λ q. rw q (omega arith)) (λ q. rw q (let h = first_marks c (releases r b) l in omega arith))

-- a text has no more bytes after release than as it is written
pub plain_length : (r : Bool) (l : List ℕ) → length (plain_on r l) ≤ length l
unfolding plain_on
plain_length r [] = omega arith
plain_length r (b ∷ l) =
    choose (stands 63 r b)
    (λ q. let h = plain_length true l in rw q (omega (arith, h)))
    (λ q. let h = plain_length false l in rw q (omega (arith, h)))

-- what stands as one of the three is a mark
standing : (c : ℕ) (r : Bool) (b : ℕ) → is_mark c ≡ true → stands c r b ≡ true → is_mark b ≡ true
standing c true b m q = absurd (let z : ◌≡◌ {A = ℕ} 0 1 = cc in omega arith)
standing c false b m q = ap is_mark (eqb-true b c q) ∙ m

later_marks : (c : ℕ) (r : Bool) (l : List ℕ) → is_mark c ≡ true → length (later_pieces c r l) ≤ marks_in l
unfolding later_pieces marks_in
later_marks c r [] m = omega arith
later_marks c r (b ∷ l) m =
    let h = later_marks c (releases r b) l m in
    choose (stands c r b)
    (λ q. rw (q, standing c r b m q) (omega arith))
    (λ q. rw q (omega arith))

-- a test that holds of every text with so few marks and characters holds of each later piece
module _ (f : List ℕ → Bool) (n k : ℕ) (t : (p : List ℕ) → marks_in p ≤ n → length p ≤ k → f p ≡ true) where
  every : (c : ℕ) (r : Bool) (l : List ℕ) → marks_in l ≤ n → length l ≤ k → all f (later_pieces c r l) ≡ true
  unfolding later_pieces marks_in
  every c r [] h g = refl
  every c r (b ∷ l) h g =
      let w = every c (releases r b) l (omega arith) (omega arith) in
      let x = first_marks c false l in
      let y = first_length c false l in
      choose (stands c r b)
      (λ q. rw (q, t (first_piece c false l) (omega arith) (omega arith)) w)
      (λ q. rw q w)

component_few : (p : List ℕ) → marks_in p ≤ 31 → length p ≤ 512 → component_fits p ≡ true
unfolding component_fits
component_few p h g =
    let l = plain_length false p in
    le-leb (length (plain p)) 512 (omega arith)

mark_colon : is_mark 58 ≡ true
unfolding is_mark
mark_colon = refl

mark_star : is_mark 42 ≡ true
unfolding is_mark
mark_star = refl

mark_plus : is_mark 43 ≡ true
unfolding is_mark
mark_plus = refl

occurrence_few : (p : List ℕ) → marks_in p ≤ 31 → length p ≤ 512 → occurrence_fits p ≡ true
unfolding occurrence_fits
occurrence_few p h g =
    let n = later_marks 58 false p mark_colon in
    let x = first_marks 58 false p in
    let y = first_length 58 false p in
    rw (
      le-leb (suc (length (later_pieces 58 false p))) 32 (omega arith),
      component_few (first_piece 58 false p) (omega arith) (omega arith),
      every component_fits 31 512 component_few 58 false p h g,
    )

element_few : (p : List ℕ) → marks_in p ≤ 31 → length p ≤ 512 → element_fits p ≡ true
unfolding element_fits
element_few p h g =
    let n = later_marks 42 false p mark_star in
    let x = first_marks 42 false p in
    let y = first_length 42 false p in
    rw (
      le-leb (suc (length (later_pieces 42 false p))) 99 (omega arith),
      occurrence_few (first_piece 42 false p) (omega arith) (omega arith),
      every occurrence_fits 31 512 occurrence_few 42 false p h g,
    )

pub limits_few : (g : List ℕ) → marks_in g ≤ 31 → length g ≤ 512 → within_limits g ≡ true
unfolding within_limits
limits_few g h k =
    let n = later_marks 43 false g mark_plus in
    rw (le-leb (length (later_pieces 43 false g)) 64 (omega arith), every element_fits 31 512 element_few 43 false g h k)

-- a mark as the sum of two tests
pub byte_unit : (p : Bool) → bool_byte p ≤ 1
byte_unit true = omega arith
byte_unit false = omega arith

same : ℕ → Bool
same b = eqb (bool_byte (eqb (bit_or b 1) 43) + bool_byte (eqb b 58)) (pick (is_mark b) 1 0)

pub mark_sum : (b : ℕ) → b < 256 → bool_byte (eqb (bit_or b 1) 43) + bool_byte (eqb b 58) ≡ pick (is_mark b) 1 0
unfolding same is_mark
mark_sum b h = eqb→eq _ _ (at same 256 tt b h)

pub unit_bound : (x : ℕ) (p : Bool) → x ≡ pick p 1 0 → x ≤ 1
unit_bound x p q = let h = unit p in omega arith

-- the marks of a part, and of what stands behind it
marks_take : (n : ℕ) (l : List ℕ) → marks_in l ≡ marks_in (take n l) + marks_in (drop n l)
unfolding marks_in
marks_take zero l = omega arith
marks_take (suc n) [] = refl
marks_take (suc n) (b ∷ l) = let h = marks_take n l in omega arith

pub marks_part : (s : List ℕ) (i e : ℕ) → i ≤ e → marks_in (drop i s) ≡ marks_in (between s i e) + marks_in (drop e s)
marks_part s i e h =
    let q : i + (e - i) ≡ e = omega arith in
    let d : drop (e - i) (drop i s) ≡ drop e s = rw (drop-drop, q) in
    marks_take (e - i) (drop i s) ∙ rw d
