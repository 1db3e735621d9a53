-- The laws of the weekday form's parts, a day and a weekday at a time.
-- Assumes nothing.
use Rattle.std.specs.Prelude.{◌≡◌, Bool, not, List, [], ◌∷◌, ◌++◌, eqb, length, set, take}
use Rattle.std.proofs.Math.Path.{refl}
use Rattle.std.proofs.Common.{sym, ap, ◌∙◌, append_assoc, append-nil, add-one, take-suc-set, eq-eqb, ne_eqb}
use Rattle.std.proofs.Math.Bool.{true, false}
use Prim.Native.Nat.{ℕ, zero, suc, ◌+◌, ◌-◌, ◌%◌, ◌<◌, ◌≤◌}
use native.Mathlib.Omega.{arith}
use Rattle.std.proofs.Math.Decide.{ℕ_discrete}
use Rattle.std.proofs.lemmas.List.{take-set-le}
use Rattle.std.specs.List.{list_all, range_with_len}
use Rattle.laws.specs.Choice.{pick, both, either, choose}
use Rattle.dates.specs.Days.{weekday_of}
use Rattle.dates.specs.Laws.{weekday_range}
use Rattle.calendar.specs.Days.{day, has_bit}
use Rattle.calendar.specs.Bits.{bit_none, bit_same, bit_other}
use Rattle.calendar.specs.Written.{named, all_on, digits_from}
use Rattle.calendar.specs.Week.{mark, week_of}

in_byte : (n : ℕ) {w : ℕ} → w ≡ weekday_of n → w % 8 ≡ weekday_of n
in_byte n e = let r = weekday_range n in omega arith

pub week_step : (c : List ℕ) (f k : ℕ) {w x r : ℕ} → w ≡ weekday_of (f + k) → x ≡ week_of c f k → r ≡ mark (day c k) x (w % 8) → r ≡ week_of c f (k + 1)
unfolding week_of
week_step c f k {w} {x} {r} e g h = h ∙ rw (add-one, in_byte (f + k) e, g)

-- a bit of the byte says whether the weekday is named
module _ (x v w : ℕ) (hv : v < 8) (hw : w < 8) where
  marks : (d b : Bool) → has_bit x w ≡ b → has_bit (mark d x v) w ≡ either (both d (eqb v w)) b
  unfolding mark
  marks false b e = e
  marks true b e =
      elim (ℕ_discrete v w) [
        | yes q ↦ rw (eq-eqb v w q, q) (bit_same x w hw)
        | no q ↦ rw (ne_eqb v w q) (bit_other x v w hv hw (λ p. q (sym p)) ∙ e)
      ]

pub week_named : (c : List ℕ) (f n w : ℕ) → w < 8 → has_bit (week_of c f n) w ≡ named c f n w
unfolding week_of named
week_named c f zero w h = bit_none w h
week_named c f (suc n) w h =
    let r = weekday_range (f + n) in
    marks (week_of c f n) (weekday_of (f + n)) w (omega arith) h (day c n) (named c f n w) (week_named c f n w h)

-- whether day k is selected or its weekday passes no test
abbrev pub on_here : (ℕ → Bool) → List ℕ → ℕ → ℕ → Bool
on_here t c f k = either (not (t (weekday_of (f + k)))) (day c k)

-- the same from a weekday as a byte's bit
pub here : (x : ℕ) (c : List ℕ) (f k : ℕ) {w : ℕ} {r : Bool} → w ≡ weekday_of (f + k) → r ≡ either (not (has_bit x (w % 8))) (day c k) → r ≡ on_here (has_bit x) c f k
here x c f k e g = g ∙ ap (λ (v : ℕ). either (not (has_bit x v)) (day c k)) (in_byte (f + k) e)

-- the days of a range one by one
pub on_in_range : (t : ℕ → Bool) (c : List ℕ) (f k n : ℕ) → list_all (on_here t c f) (range_with_len k n) ≡ all_on t c f k n
unfolding all_on
on_in_range t c f k zero = refl
on_in_range t c f k (suc n) = let r = on_in_range t c f (k + 1) n in choose (on_here t c f k) (λ p. rw p r) (λ p. rw p)

-- two tests that agree on the weekdays
module _ (t u : ℕ → Bool) (a : (w : ℕ) → w < 8 → t w ≡ u w) where
  pub on_same : (c : List ℕ) (f k m : ℕ) → all_on t c f k m ≡ all_on u c f k m
  unfolding all_on
  on_same c f k zero = refl
  on_same c f k (suc m) =
      let r = weekday_range (f + k) in
      rw (a (weekday_of (f + k)) (omega arith), on_same c f (k + 1) m)

  pub digits_same : (w m : ℕ) → w + m ≤ 8 → digits_from t w m ≡ digits_from u w m
  unfolding digits_from
  digits_same w zero h = refl
  digits_same w (suc m) h = rw (a w (omega arith), digits_same (w + 1) m (omega arith))

-- a digit, and the place that moves past it or not
pub one_small : (p : Bool) {r : ℕ} → r ≡ pick p 1 0 → r ≤ 1
one_small true e = omega arith
one_small false e = omega arith

placed : (p : Bool) (b d : List ℕ) (n v : ℕ) {r : ℕ} → n < length b → r ≡ pick p 1 0 → take (n + r) (set b n v) ++ d ≡ take n b ++ (pick p (v ∷ []) [] ++ d)
placed true b d n v h e = rw (e, add-one, take-suc-set b n v) (append_assoc (take n b) (v ∷ []) d)
placed false b d n v h e = let s : n + 0 ≡ n = omega arith in rw (e, s, take-set-le n b n v (omega arith))

pub digit_step : (t : ℕ → Bool) (b : List ℕ) (n w : ℕ) {r : ℕ} → n < length b → w < 8 → r ≡ pick (t (w % 8)) 1 0
    → take (n + r) (set b n (48 + w)) ++ digits_from t (w + 1) (8 - (w + 1)) ≡ take n b ++ digits_from t w (8 - w)
unfolding digits_from
digit_step t b n w h k e =
    let s : 8 - w ≡ suc (8 - (w + 1)) = omega arith in
    let q : w % 8 ≡ w = omega arith in
    rw s (placed (t w) b (digits_from t (w + 1) (8 - (w + 1))) n (48 + w) h (e ∙ ap (λ (v : ℕ). pick (t v) 1 0) q))

pub digits_end : (t : ℕ → Bool) (b : List ℕ) (w : ℕ) → 8 ≤ w → b ++ digits_from t w (8 - w) ≡ b
unfolding digits_from
digits_end t b w h = let s : 8 - w ≡ zero = omega arith in rw s (append-nil b)
