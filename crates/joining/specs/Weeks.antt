-- The weekdays that a period names, as the bits of a byte.
-- Assumes nothing.
use Rattle.std.specs.Prelude.{◌≡◌, Bool, true, ℕ, suc, ◌+◌, ◌-◌, ◌%◌, ◌≤◌, ◌<◌, ltb, leb, get_or}
use Rattle.std.proofs.Math.Path.{sym, ap}
use Rattle.std.proofs.Common.{◌∙◌}
use mathlib.Core.List.{List, [], ◌∷◌}
use native.Mathlib.Omega.{arith}
use Rattle.std.proofs.Math.Decide.{ℕ_discrete}
use Rattle.std.proofs.Math.Dec.{eqb}
use borrow.Author.Tests.{eq-eqb, ne_eqb, ltb-true, leb-true}
use Rattle.laws.specs.Choice.{both, either, among, both_parts, either_true, either_false}
use Rattle.laws.specs.Sweep.{agree}
use Rattle.dates.specs.Days.{weekday_of}
use Rattle.dates.specs.Laws.{weekday_range}
use Rattle.calendar.specs.Days.{has_bit, with_bit}
use Rattle.calendar.specs.Bits.{bit_none, bit_same, bit_other}
use Rattle.period.specs.Period.{week_text, rising_days, runs_by}
use Rattle.syntax.specs.Bytes.{plain}
use Rattle.syntax.specs.Pieces.{part_of}
use Rattle.period.specs.declared.Form.{Form}
use Rattle.period.specs.declared.Form.TheVariants.{Every, ByString, ByWeekdays}
use Rattle.joining.specs.Joined.{week_bits, marked}
use Rattle.joining.specs.Marks.{mark_same}

-- a weekday's bit
pub week_bit : (n week : ℕ) {w : ℕ} {r : Bool} → w ≡ weekday_of n → r ≡ has_bit week (w % 8) → r ≡ has_bit week (weekday_of n)
week_bit n week {w} e f =
    let g = weekday_range n in
    let h : w % 8 ≡ weekday_of n = omega arith in
    f ∙ ap (has_bit week) h

-- is set exactly when the text names it
module _ (w : ℕ) (hw : w < 8) where
  pub week_names : (low x : ℕ) (t : List ℕ) → 48 ≤ low → rising_days low t ≡ true → has_bit (week_bits x t) w ≡ either (has_bit x w) (among (48 + w) t)
  unfolding week_bits rising_days
  week_names low x [] h r = sym (either_false (has_bit x w))
  week_names low x (b ∷ l) h r =
      let p = both_parts (both (ltb low b) (leb b 55)) (rising_days b l) r in
      let q = both_parts (ltb low b) (leb b 55) p.0 in
      let m = ltb-true low b q.0 in
      let n = leb-true b 55 q.1 in
      week_names b (with_bit x (b % 8)) l (omega arith) p.1
      ∙ elim (ℕ_discrete (48 + w) b) [
        | yes e ↦
            let d : b % 8 ≡ w = omega arith in
            rw (d, bit_same x w hw, eq-eqb (48 + w) b e) (sym (either_true (has_bit x w)))
        | no e ↦
            rw (bit_other x (b % 8) w (omega arith) hw (λ z. e (omega arith)), ne_eqb (48 + w) b e)
      ]

all_week : ℕ → Bool
all_week w = has_bit 254 (suc w)

every_bit : (w : ℕ) → 1 ≤ w → w < 8 → has_bit 254 w ≡ true
unfolding all_week has_bit
every_bit w h k =
    let e : suc (w - 1) ≡ w = omega arith in
    ap (has_bit 254) (sym e) ∙ agree all_week (λ x. true) 7 tt (w - 1) (omega arith)

-- the days marked by each form are those that run
module _ (g c : List ℕ) (at f n : ℕ) {form : Form} {last : List ℕ} where
  pub marked_every : form ≡ Every → last ≡ marked (λ (k : ℕ). has_bit 254 (weekday_of (f + k))) c at 0 n
      → last ≡ marked (runs_by g form f) c at 0 n
  unfolding runs_by
  marked_every e l =
      l ∙ rw e (mark_same (λ (k : ℕ). has_bit 254 (weekday_of (f + k))) (runs_by g Every f) c at 0 n (λ j h.
      let r = weekday_range (f + j) in
      every_bit (weekday_of (f + j)) r.0 (omega arith)))

  pub marked_week : {p : List ℕ} {week : ℕ} → rising_days 48 (week_text g) ≡ true → form ≡ ByWeekdays → p ≡ part_of g 2 1 1 → week ≡ week_bits 0 (plain p)
      → last ≡ marked (λ (k : ℕ). has_bit week (weekday_of (f + k))) c at 0 n → last ≡ marked (runs_by g form f) c at 0 n
  unfolding runs_by
  marked_week {p} {week} q e a b l =
      l ∙ rw e (mark_same (λ (k : ℕ). has_bit week (weekday_of (f + k))) (runs_by g ByWeekdays f) c at 0 n (λ j h.
      let r = weekday_range (f + j) in
      let z = bit_none (weekday_of (f + j)) (omega arith) in
      ap (λ (x : ℕ). has_bit x (weekday_of (f + j))) (b ∙ ap (λ (x : List ℕ). week_bits 0 (plain x)) a)
      ∙ week_names (weekday_of (f + j)) (omega arith) 48 0 (week_text g) (omega arith) q
      ∙ ap (λ (x : Bool). either x (among (48 + weekday_of (f + j)) (week_text g))) z))

  pub marked_string : {p : List ℕ} → form ≡ ByString → p ≡ part_of g 1 1 4
      → last ≡ marked (λ (k : ℕ). eqb (get_or (plain p) k 0) 49) c at 0 n → last ≡ marked (runs_by g form f) c at 0 n
  unfolding runs_by
  marked_string {p} e a l =
      l ∙ rw e (mark_same (λ (k : ℕ). eqb (get_or (plain p) k 0) 49) (runs_by g ByString f) c at 0 n (λ j h.
      ap (λ (x : List ℕ). eqb (get_or (plain x) j 0) 49) a))
