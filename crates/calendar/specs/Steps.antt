-- The laws of the written forms' parts, a day at a time.
-- Assumes nothing.
use Rattle.std.specs.Prelude.{◌≡◌, refl, List, ℕ, zero, suc, ◌+◌, ◌<◌, ◌≤◌, length, get_or, set}
use Rattle.std.proofs.Common.{sym, ap, ◌∙◌, arith, not-suc-le-zero}
use Rattle.std.proofs.Math.Seq.{paste}
use Rattle.std.specs.List.{list_any, range_with_len}
use Rattle.laws.specs.Choice.{choose}
use Rattle.laws.specs.Put.{put_at, put_room, put_no_room, copied}
use Rattle.calendar.specs.Days.{day}
use Rattle.calendar.specs.Written.{any_day, day_character, day_characters}

-- the days of a range one by one
pub any_in_range : (c : List ℕ) (k n : ℕ) → list_any (day c) (range_with_len k n) ≡ any_day c k n
unfolding any_day
any_in_range c k zero = refl
any_in_range c k (suc n) = let r = any_in_range c (k + 1) n in choose (day c k) (λ p. rw p) (λ p. rw p r)

pub length_characters : (c : List ℕ) (k n : ℕ) → length (day_characters c k n) ≡ n
unfolding day_characters
length_characters c k zero = refl
length_characters c k (suc n) = ap suc (length_characters c (k + 1) n)

characters_at : (c : List ℕ) (k n i : ℕ) → i < n → get_or (day_characters c k n) i 0 ≡ day_character c (k + i)
unfolding day_characters
characters_at c k zero i h = absurd (not-suc-le-zero h)
characters_at c k (suc n) zero h = ap (day_character c) (omega arith)
characters_at c k (suc n) (suc i) h = characters_at c (k + 1) n i (omega arith) ∙ ap (day_character c) (omega arith)

pub character_at : (c : List ℕ) (n i : ℕ) → i < n → get_or (day_characters c 0 n) i 0 ≡ day_character c i
character_at c n i h = characters_at c 0 n i h ∙ ap (day_character c) (omega arith)

module _ (c : List ℕ) (n : ℕ) (o : List ℕ) (at : ℕ) where
  pub days_refused : length o < at + n → o ≡ put_at o at (day_characters c 0 n)
  days_refused h = sym (put_no_room o at (day_characters c 0 n) (rw length_characters h))

  pub days_step : (i v : ℕ) → at + i < length o → i < n → v ≡ day_character c i
      → set (paste o at (day_characters c 0 n) i) (at + i) v ≡ paste o at (day_characters c 0 n) (i + 1)
  days_step i v h k e =
      ap (set (paste o at (day_characters c 0 n) i) (at + i)) (e ∙ sym (character_at c n i k))
      ∙ copied o at (day_characters c 0 n) i h (rw length_characters k)

  pub days_done : (i : ℕ) → at + n ≤ length o → i ≡ n → paste o at (day_characters c 0 n) i ≡ put_at o at (day_characters c 0 n)
  days_done i h e =
      ap (paste o at (day_characters c 0 n)) (e ∙ sym (length_characters c 0 n))
      ∙ sym (put_room o at (day_characters c 0 n) (rw length_characters h))
