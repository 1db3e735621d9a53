-- What is known of a calendar that can be written, as facts; and that its day string tells its days.
-- Assumes nothing.
use Rattle.std.specs.Prelude.{◌≡◌, refl, Bool, true, false, not, ℕ, zero, suc, ◌+◌, ◌-◌, ◌<◌, ◌≤◌, T, eqb, leb}
use Rattle.std.proofs.Math.Path.{sym, ap}
use Rattle.std.proofs.Common.{subst, ◌∙◌, arith, not-suc-le-zero, eqb→eq, leb→le}
use mathlib.Core.List.{List}
use Rattle.std.proofs.Math.Decide.{dec_lt}
use Rattle.std.proofs.Math.ListN.{length, get_or}
use Rattle.laws.specs.Choice.{pick, either, both_left, both_right}
use Rattle.dates.specs.Dates.{valid, number}
use Rattle.dates.specs.declared.Date.{Date}
use Rattle.calendar.specs.Days.{day}
use Rattle.calendar.specs.Written.{any_day, day_count, good_period, good_calendar, day_character, day_characters}
use Rattle.calendar.specs.Steps.{character_at}
use Rattle.calendar.specs.Same.{days_same}

pub record GoodCalendar (c : List ℕ) (first last : Date) : Type 0 where
  pub bytes : length c ≡ 64
  pub first_date : valid first ≡ true
  pub last_date : valid last ≡ true
  pub in_order : number first ≤ number last
  pub not_long : day_count first last ≤ 512
  pub none_past : (k : ℕ) → day_count first last ≤ k → k < 512 → day c k ≡ false

T_true : (p : Bool) → T p → p ≡ true
T_true true t = refl
T_true false t = absurd t

not_t : (p : Bool) → T (not p) → p ≡ false
not_t true t = absurd t
not_t false t = refl

neither : (a b : Bool) → either a b ≡ false → (a ≡ false) × (b ≡ false)
neither true b e = let z : ◌≡◌ {A = ℕ} 0 1 = cc in absurd (omega arith)
neither false b e = (refl, e)

pub any_none : (c : List ℕ) (k n i : ℕ) → i < n → any_day c k n ≡ false → day c (k + i) ≡ false
unfolding any_day
any_none c k zero i h e = absurd (not-suc-le-zero h)
any_none c k (suc n) zero h e = subst (λ (x : ℕ). day c x ≡ false) (omega arith) (neither (day c k) (any_day c (k + 1) n) e).0
any_none c k (suc n) (suc i) h e =
    subst (λ (x : ℕ). day c x ≡ false) (omega arith) (any_none c (k + 1) n i (omega arith) (neither (day c k) (any_day c (k + 1) n) e).1)

pub good_facts : (c : List ℕ) (first last : Date) → good_calendar c first last ≡ true → GoodCalendar c first last
unfolding good_calendar good_period
good_facts c first last e =
    let t : T (good_calendar c first last) = subst T (sym e) tt in
    let u = both_right (eqb (length c) 64) _ t in
    let p = both_left (good_period first last) _ u in
    let p₁ = both_right (valid first) _ p in
    let p₂ = both_right (valid last) _ p₁ in
    let n : any_day c (day_count first last) (512 - day_count first last) ≡ false = not_t _ (both_right (good_period first last) _ u) in
    record {
      bytes = eqb→eq _ _ (both_left (eqb (length c) 64) _ t);
      first_date = T_true (valid first) (both_left (valid first) _ p);
      last_date = T_true (valid last) (both_left (valid last) _ p₁);
      in_order = leb→le _ _ (both_left (leb (number first) (number last)) _ p₂);
      not_long = leb→le _ _ (both_right (leb (number first) (number last)) _ p₂);
      none_past = λ k h l. subst (λ (x : ℕ). day c x ≡ false) (omega arith) (any_none c (day_count first last) (512 - day_count first last) (k - day_count first last) (omega arith) n);
    }

character_tells : (p q : Bool) → ◌≡◌ {A = ℕ} (pick p 49 48) (pick q 49 48) → p ≡ q
character_tells true true e = refl
character_tells true false e = absurd (omega arith)
character_tells false true e = absurd (omega arith)
character_tells false false e = refl

-- two calendars of one period with the same day string are the same bytes
module _ (a b : List ℕ) (first last : Date) (ga : good_calendar a first last ≡ true) (gb : good_calendar b first last ≡ true)
    (ha : (i : ℕ) → i < length a → get_or a i 0 < 256) (hb : (i : ℕ) → i < length b → get_or b i 0 < 256) where
  pub day_string_tells : day_characters a 0 (day_count first last) ≡ day_characters b 0 (day_count first last) → a ≡ b
  unfolding day_character
  day_string_tells e =
      let f = good_facts a first last ga in
      let g = good_facts b first last gb in
      let l : length a ≡ length b = f.bytes ∙ sym g.bytes in
      days_same a b l ha hb (λ k h.
      elim (dec_lt k (day_count first last)) [
        | yes u ↦ character_tells (day a k) (day b k) (sym (character_at a (day_count first last) k u) ∙ ap (λ (s : List ℕ). get_or s k 0) e ∙ character_at b (day_count first last) k u)
        | no u ↦ f.none_past k (omega arith) (omega (arith, f.bytes)) ∙ sym (g.none_past k (omega arith) (omega (arith, f.bytes)))
      ])
