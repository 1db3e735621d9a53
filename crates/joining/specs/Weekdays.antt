-- Where the weekdays of a good period stand: its first element is so long that a mark behind 25 bytes of it ends it.
-- Assumes nothing.
use Rattle.std.specs.Prelude.{◌≡◌, Bool, true, ℕ, zero, suc, ◌+◌, ◌%◌, ◌≤◌, ◌<◌, leb, length, drop}
use Rattle.std.proofs.Math.Path.{refl, ap}
use Rattle.std.proofs.Common.{sym, ◌∙◌, arith, length-drop, drop-drop, get_or-drop}
use Rattle.std.proofs.Math.Bool.{false}
use mathlib.Core.List.{List, [], ◌∷◌, ◌++◌}
use Rattle.std.proofs.Math.ListN.{get_or}
use borrow.Author.Tests.{ne_eqb, eq-eqb, le-leb, lt-leb, leb-true}
use Rattle.laws.specs.Choice.{pick, both, all, both_parts, both_false, choose}
use Rattle.laws.specs.Text.{bytes}
use Rattle.syntax.specs.Bytes.{stands, releases, plain}
use Rattle.syntax.specs.Firsts.{first_length}
use Rattle.syntax.specs.Pieces.{first_piece, later_pieces, nth, elements, components, part_of}
use Rattle.parts.specs.Cuts.{later_split}
use Rattle.calendar.specs.Days.{with_bit}
use Rattle.free_texts.specs.Free.{numeric, first_all, plain_all, no_plus, no_star, no_colon, no_release}
use Rattle.period.specs.Period.{week_text}
use Rattle.joining.specs.Joined.{week_bits}
use Rattle.joining.specs.Places.{there, element, element_cut, Dated, Tagged}

-- the weekdays of a text of digits 1 to 7 as the bits of a byte; 0 where it has another byte
unfoldable pub plain_week : ℕ → List ℕ → ℕ
plain_week x [] = x
plain_week x (b ∷ l) = pick (both (leb 49 b) (leb b 55)) (plain_week (with_bit x (b % 8)) l) 0

module _ (t l : List ℕ) (x b : ℕ) (e : t ≡ b ∷ l) where
  pub week_under : b < 49 → 0 ≡ plain_week x t
  unfolding plain_week
  week_under h = rw (e, lt-leb 49 b h)

  pub week_over : 55 < b → 0 ≡ plain_week x t
  unfolding plain_week
  week_over h = rw (e, lt-leb b 55 h, both_false (leb 49 b))

  pub week_on : {r : ℕ} → 49 ≤ b → b ≤ 55 → r ≡ with_bit x (b % 8) → plain_week r l ≡ plain_week x t
  unfolding plain_week
  week_on g h f = rw (e, le-leb 49 b g, le-leb b 55 h, f)

pub week_over_all : (t : List ℕ) (x : ℕ) → t ≡ [] → x ≡ plain_week x t
unfolding plain_week
week_over_all t x e = rw e

-- where it is not 0 the text is digits, and these are its weekdays
pub week_plain : (x : ℕ) (l : List ℕ) → 1 ≤ plain_week x l → (all numeric l ≡ true) × (plain_week x l ≡ week_bits x l)
unfolding plain_week week_bits
week_plain x [] h = (refl, refl)
week_plain x (b ∷ l) h =
    choose (both (leb 49 b) (leb b 55))
    (λ q.
    let u = both_parts (leb 49 b) (leb b 55) q in
    let v = leb-true 49 b u.0 in
    let w = week_plain (with_bit x (b % 8)) l (rw q at h) in
    (rw (le-leb 45 b (omega arith), le-leb b 57 (let k = leb-true b 55 u.1 in omega arith)) w.0, rw q w.1))
    (λ q. let k = rw q at h in absurd (omega arith))

-- a piece that reaches a mark behind a byte that does not release it ends there
stops : (c : ℕ) (i : ℕ) (r : Bool) (l : List ℕ) → suc i ≤ length (first_piece c r l) → suc i < length l → (get_or l i 0 ≡ 63 → ⊥) → get_or l (suc i) 0 ≡ c
    → length (first_piece c r l) ≡ suc i
unfolding first_piece
stops c i r [] h k n e = absurd (omega arith)
stops c zero r (a ∷ []) h k n e = absurd (omega arith)
stops c zero r (a ∷ b ∷ l) h k n e =
    choose (stands c r a) (λ q. let z = rw q at h in absurd (omega arith)) (λ q. rw (q, not_released r) (rw (eq-eqb b c e)))
  where
    not_released : (r : Bool) → releases r a ≡ false
    not_released true = refl
    not_released false = ne_eqb a 63 n
stops c (suc i) r (a ∷ l) h k n e =
    choose (stands c r a) (λ q. let z = rw q at h in absurd (omega arith))
    (λ q.
    let z = rw q at h in
    rw q (ap suc (stops c i (releases r a) l (omega arith) (omega arith) n e)))

-- a mark behind `POP+` and 25 bytes
pub record Marked (g : List ℕ) : Type 0 where
  pub tagged : Tagged g
  pub long : 31 ≤ length g
  pub bare : get_or g 28 0 ≡ 63 → ⊥
  pub mark : get_or g 29 0 ≡ 43

module _ (r : List ℕ) where
  first_long : 3 ≤ length (nth (components (element r)) 1) → 21 ≤ length (nth (components (element r)) 2) → 25 ≤ length (first_piece 43 false r)
  first_long p q =
      let t = there (element r) 0 (omega arith) in
      let m = length (first_piece 58 false (element r)) + 1 in
      let e : get_or (later_pieces 58 false (element r)) 0 [] ≡ first_piece 58 false (drop (length (first_piece 58 false (element r)) + 1) (element r)) = ap (λ (x : List (List ℕ)). get_or x 0 []) t.1 in
      let n = ap length e in
      let u = first_length 58 false (drop (length (first_piece 58 false (element r)) + 1) (element r)) in
      let v = length-drop (length (first_piece 58 false (element r)) + 1) (element r) in
      let w = first_length 42 false (first_piece 43 false r) in
      let s = t.0 in
      omega arith

  second_is : 3 ≤ length (nth (components (element r)) 1) → 21 ≤ length (nth (components (element r)) 2) → 26 < length r → (get_or r 24 0 ≡ 63 → ⊥) → get_or r 25 0 ≡ 43
      → nth (elements (bytes "POP+" ++ r)) 2 ≡ first_piece 43 false (drop 26 r)
  unfolding later_pieces
  second_is p q h n e =
      let s = stops 43 24 false r (first_long p q) (omega arith) n e in
      ap (λ (x : List (List ℕ)). get_or x 0 []) (later_split 43 false r refl (omega arith)) ∙ ap (λ (k : ℕ). first_piece 43 false (drop (k + 1) r)) s

second_part : (g l : List ℕ) → nth (elements g) 2 ≡ first_piece 43 false l → all numeric l ≡ true → part_of g 2 1 1 ≡ l
unfolding part_of
second_part g l e p =
    ap (λ (x : List ℕ). first_piece 58 false (first_piece 42 false x)) (e ∙ first_all 43 l (no_plus l p)) ∙ ap (first_piece 58 false) (first_all 42 l (no_star l p)) ∙ first_all 58 l (no_colon l p)

-- so a text of digits behind it is the weekdays
pub weekdays_place : (g : List ℕ) → Dated g → Marked g → all numeric (drop 30 g) ≡ true → drop 30 g ≡ week_text g
weekdays_place g d m p =
    let a = d.qualified in
    let b = d.dated in
    let h = m.long in
    let i : length (part_of g 1 1 1) ≡ length (nth (components (element (drop 4 g))) 1) = ap length (inside 1) in
    let j : length (part_of g 1 1 2) ≡ length (nth (components (element (drop 4 g))) 2) = ap length (inside 2) in
    let l = length-drop 4 g in
    let s = second_is (drop 4 g) (omega arith) (omega arith) (omega arith) (λ q. m.bare (sym (get_or-drop 4 g 24 0) ∙ q)) (get_or-drop 4 g 25 0 ∙ m.mark) in
    let t = second_part g (drop 30 g) (ap (λ (x : List ℕ). nth (elements x) 2) m.tagged ∙ s ∙ ap (first_piece 43 false) (drop-drop 26 4 g)) p in
    sym (ap plain t ∙ plain_all (drop 30 g) (no_release (drop 30 g) p))
  where
    inside : (k : ℕ) → part_of g 1 1 k ≡ nth (components (element (drop 4 g))) k
    inside k = ap (λ (x : List ℕ). part_of x 1 1 k) m.tagged ∙ element_cut (drop 4 g) k

pub week_found : (g : List ℕ) {r : ℕ} → Dated g → Marked g → r ≡ plain_week 0 (drop 30 g) → 1 ≤ r → r ≡ week_bits 0 (week_text g)
week_found g d m e h =
    let w = week_plain 0 (drop 30 g) (omega arith) in
    e ∙ w.1 ∙ ap (week_bits 0) (weekdays_place g d m w.0)
