-- The tests of a date that is read, in their order.
-- Assumes nothing.
use Rattle.std.specs.Prelude.{◌≡◌, List, ℕ, ◌+◌, ◌<◌, ◌≤◌, length, get_or, Option, Some, None}
use borrow.Author.Tests.{le-leb, lt-leb, eq-eqb, ne_eqb}
use Rattle.dates.specs.Dates.{made_of}
use Rattle.dates.specs.Text.{digits_at, four_digits, date_at}
use Rattle.dates.specs.declared.Date.{Date}

module _ (s : List ℕ) (at : ℕ) where
  pub no_room_to_read : length s < at + 10 → None ≡ date_at s at
  unfolding date_at
  no_room_to_read h = rw (lt-leb (at + 10) (length s) h)

  module _ (h : at + 10 ≤ length s) where
    pub no_first_hyphen : (get_or s (at + 4) 0 ≡ 45 → ⊥) → None ≡ date_at s at
    unfolding date_at
    no_first_hyphen p = rw (le-leb (at + 10) (length s) h, ne_eqb (get_or s (at + 4) 0) 45 p)

    module _ (p : get_or s (at + 4) 0 ≡ 45) where
      pub no_second_hyphen : (get_or s (at + 7) 0 ≡ 45 → ⊥) → None ≡ date_at s at
      unfolding date_at
      no_second_hyphen q = rw (le-leb (at + 10) (length s) h, eq-eqb (get_or s (at + 4) 0) 45 p, ne_eqb (get_or s (at + 7) 0) 45 q)

      module _ (q : get_or s (at + 7) 0 ≡ 45) where
        pub no_year : four_digits (digits_at s at) (digits_at s (at + 2)) ≡ None → None ≡ date_at s at
        unfolding date_at
        no_year y = rw (le-leb (at + 10) (length s) h, eq-eqb (get_or s (at + 4) 0) 45 p, eq-eqb (get_or s (at + 7) 0) 45 q, y)

        module _ {y : ℕ} (ey : four_digits (digits_at s at) (digits_at s (at + 2)) ≡ Some y) where
          pub no_month : digits_at s (at + 5) ≡ None → None ≡ date_at s at
          unfolding date_at
          no_month m = rw (le-leb (at + 10) (length s) h, eq-eqb (get_or s (at + 4) 0) 45 p, eq-eqb (get_or s (at + 7) 0) 45 q, ey, m)

          module _ {m : ℕ} (em : digits_at s (at + 5) ≡ Some m) where
            pub no_day : digits_at s (at + 8) ≡ None → None ≡ date_at s at
            unfolding date_at
            no_day d = rw (le-leb (at + 10) (length s) h, eq-eqb (get_or s (at + 4) 0) 45 p, eq-eqb (get_or s (at + 7) 0) 45 q, ey, em, d)

            pub all_read : {d : ℕ} {r : Option Date} → digits_at s (at + 8) ≡ Some d → r ≡ made_of y m d → r ≡ date_at s at
            unfolding date_at
            all_read ed e = rw (le-leb (at + 10) (length s) h, eq-eqb (get_or s (at + 4) 0) 45 p, eq-eqb (get_or s (at + 7) 0) 45 q, ey, em, ed) e
