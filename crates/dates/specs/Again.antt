-- What is written reads back: the ten bytes of a date give that date.
-- Assumes nothing.
use Rattle.std.specs.Prelude.{◌≡◌, refl, Bool, true, false, List, T, leb, length, take, drop, Some, None}
use Rattle.std.proofs.Common.{sym, ◌∙◌, ap, leb→le, length-take, length-drop, get_or-take, get_or-drop, le-leb}
use Prim.Native.Nat.{ℕ, suc, ◌+◌, ◌-◌, ◌*◌, ◌/◌, ◌%◌, ◌<◌, ◌≤◌}
use native.Mathlib.Omega.{arith}
use Rattle.std.proofs.Math.ListN.{get_or}
use Rattle.laws.specs.Choice.{pick, both}
use Rattle.laws.specs.Decimal.{digit}
use Rattle.dates.specs.Dates.{made_of, valid}
use Rattle.dates.specs.Facts.{date_facts, month_at_most}
use Rattle.laws.specs.Put.{put_at, put_take}
use Rattle.dates.specs.Text.{date_text, two_digits, digits_at, date_at}
use Rattle.dates.specs.declared.Date.{Date}

bound : (p q r s : Bool) (t o n : ℕ) → (T q → t ≤ 57) → (T s → o ≤ 57) → pick (both (both p q) (both r s)) (Some ((t - 48) * 10 + (o - 48))) None ≡ Some n → n ≤ 99
bound true true true true t o n f g e =
    let h : (t - 48) * 10 + (o - 48) ≡ n = cc in
    omega (arith, f tt, g tt)
bound true true true false t o n f g e = let z : ◌≡◌ {A = ℕ} 0 1 = cc in omega arith
bound true true false s t o n f g e = let z : ◌≡◌ {A = ℕ} 0 1 = cc in omega arith
bound true false r s t o n f g e = let z : ◌≡◌ {A = ℕ} 0 1 = cc in omega arith
bound false q r s t o n f g e = let z : ◌≡◌ {A = ℕ} 0 1 = cc in omega arith

pub digits_small : (s : List ℕ) (i : ℕ) {n : ℕ} → digits_at s i ≡ Some n → n ≤ 99
unfolding digits_at two_digits
digits_small s i {n} e =
    let t = get_or s i 0 in
    let o = get_or s (i + 1) 0 in
    bound (leb 48 t) (leb t 57) (leb 48 o) (leb o 57) t o n (leb→le t 57) (leb→le o 57) e

pub length_text : (a : Date) → length (date_text a) ≡ 10
unfolding date_text
length_text a = refl

-- two digits of a number below a hundred
pair : (n t o : ℕ) → n < 100 → t ≡ digit (n / 10) → o ≡ digit n → two_digits t o ≡ Some n
unfolding two_digits
pair n t o h p q =
    let e : (t - 48) * 10 + (o - 48) ≡ n = omega arith in
    rw (le-leb 48 t (omega arith), le-leb t 57 (omega arith), le-leb 48 o (omega arith), le-leb o 57 (omega arith))
    (ap Some e)

-- the ten bytes of a date, wherever they stand, are read as that date
module _ (a : Date) (v : valid a ≡ true) (s : List ℕ) (at : ℕ) (e : take 10 (drop at s) ≡ date_text a) where
  room : at + 10 ≤ length s
  room = omega (arith, simp (length-take, length-drop) at (ap length e ∙ length_text a))

  byte : (j : ℕ) → j < 10 → get_or s (at + j) 0 ≡ get_or (date_text a) j 0
  byte j h = sym (get_or-drop at s j 0) ∙ sym (get_or-take 10 (drop at s) j 0 h) ∙ ap (λ (l : List ℕ). get_or l j 0) e

  digits : (j n : ℕ) → j < 9 → n < 100 → get_or s (at + j) 0 ≡ digit (n / 10) → get_or s (at + suc j) 0 ≡ digit n → digits_at s (at + j) ≡ Some n
  unfolding digits_at
  digits j n h l p q =
      let e : at + j + 1 ≡ at + suc j = omega arith in
      pair n (get_or s (at + j) 0) (get_or s (at + j + 1) 0) l p (ap (λ (k : ℕ). get_or s k 0) e ∙ q)

  pub read_text : date_at s at ≡ Some a
  unfolding date_at made_of date_text
  read_text =
      let f = date_facts a.year a.month a.day v in
      let l = month_at_most a.year a.month in
      let c = digits 0 (a.year / 100) (omega arith) (omega arith) (byte 0 (omega arith) ∙ omega arith) (byte 1 (omega arith) ∙ omega arith) in
      let y = digits 2 (a.year % 100) (omega arith) (omega arith) (byte 2 (omega arith) ∙ omega arith) (byte 3 (omega arith) ∙ omega arith) in
      let m = digits 5 a.month (omega arith) (omega arith) (byte 5 (omega arith)) (byte 6 (omega arith)) in
      let d = digits 8 a.day (omega arith) (omega arith) (byte 8 (omega arith)) (byte 9 (omega arith)) in
      let z : at + 0 ≡ at = omega arith in
      let k : a.year / 100 * 100 + a.year % 100 ≡ a.year = omega arith in
      rw (le-leb (at + 10) (length s) room, byte 4 (omega arith), byte 7 (omega arith), rw z at c, y, m, d, k, v)

-- what is written reads back as the same date
pub written_again : (a : Date) → valid a ≡ true → (o : List ℕ) (at : ℕ) → at + 10 ≤ length o → date_at (put_at o at (date_text a)) at ≡ Some a
written_again a v o at h =
    read_text a v (put_at o at (date_text a)) at (rw length_text at (put_take o at (date_text a) (rw length_text h)))
