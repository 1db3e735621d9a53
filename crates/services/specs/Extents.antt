-- How far the rows of a service go: one search finds the next service or the UIT, and where the rows of group 2 end.
-- Assumes nothing.
use Rattle.std.specs.Prelude.{ℕ, ◌+◌, ◌-◌, ◌*◌, ◌/◌, ◌≤◌, ◌<◌, ◌≡◌, refl, Bool, true, false, List, length, get_or}
use Rattle.std.proofs.Common.{sym, ◌∙◌, arith, lt-ltb, le-ltb}
use Rattle.std.proofs.Math.Decide.{dec_lt}
use Rattle.laws.specs.Choice.{either}
use Rattle.messages.specs.Tags.{PRD, MSD, UIT}
use Rattle.services.specs.Rows.{is_row, first_from}
use Rattle.services.specs.Services.{is_service, service_end, removes}
use Rattle.services.specs.Inner.{key_of, key_plain, Passes, passes_one, passes_on, passes_first}
use Rattle.services.specs.Search.{row_inner, first_past, first_here, first_on, first_bounds, first_skips, first_short, first_none, first_either}

-- the rows of a service end before a row
abbrev pub ends_service : List ℕ → ℕ → Bool
ends_service rows = λ j. either (is_service rows j) (is_row rows 0 UIT j)

pub ends_here : (rows : List ℕ) (i : ℕ) → is_service rows i ≡ true → true ≡ ends_service rows i
ends_here rows i q = rw q

pub ends_there : (rows : List ℕ) (i : ℕ) (x : Bool) → is_service rows i ≡ false → x ≡ is_row rows 0 UIT i → x ≡ ends_service rows i
ends_there rows i x q e = rw q e

-- from row `own` on up to row `to` no row is an MSD of group 2
pub record Reaches (rows : List ℕ) (from n own to : ℕ) : Type 0 where
  pub starts : from ≤ own
  pub within : own ≤ to
  pub ends : to ≡ first_from (ends_service rows) from n
  pub free : (j : ℕ) → own ≤ j → j < to → is_row rows 2 MSD j ≡ false

-- the same on the way, at row i
pub record Walked (rows : List ℕ) (from n own i : ℕ) : Type 0 where
  pub starts : from ≤ own
  pub within : own ≤ i
  pub onward : first_from (ends_service rows) i n ≡ first_from (ends_service rows) from n
  pub free : (j : ℕ) → own ≤ j → j < i → is_row rows 2 MSD j ≡ false

pub walked_start : (rows : List ℕ) (from n : ℕ) → Walked rows from n from from
walked_start rows from n = record { starts = omega arith; within = omega arith; onward = refl; free = λ j a b. absurd (omega arith) }

module _ (rows : List ℕ) (from n own i : ℕ) (w : Walked rows from n own i) where
  pub walked_past : n ≤ i → Reaches rows from n own i
  walked_past h = record { starts = w.starts; within = w.within; ends = sym (first_past (ends_service rows) i n h) ∙ w.onward; free = w.free }

  module _ (h : i < n) where
    pub walked_end : ends_service rows i ≡ true → Reaches rows from n own i
    walked_end q = record { starts = w.starts; within = w.within; ends = sym (first_here (ends_service rows) i n h q) ∙ w.onward; free = w.free }

    pub walked_own : ends_service rows i ≡ false → Walked rows from n (i + 1) (i + 1)
    walked_own q =
        let a = w.starts in
        let b = w.within in
        record { starts = omega arith; within = omega arith; onward = sym (first_on (ends_service rows) i n h q) ∙ w.onward; free = λ j a b. absurd (omega arith) }

  -- rows of groups inside the service
  pub walked_pass : (r : ℕ) → n ≤ length rows / 3 → Passes (key_of rows 1 0) 3 i r → r ≤ n → Walked rows from n own r
  walked_pass r l p d =
      let a = p.onward in
      let b = w.within in
      record {
        starts = w.starts;
        within = omega arith;
        onward = passes_first (key_of rows 1 0) (ends_service rows) 3 i n r p d goes_on ∙ w.onward;
        free = free_here;
      }
    where
      goes_on : (j : ℕ) → j < n → 3 ≤ key_of rows 1 0 j → ends_service rows j ≡ false
      goes_on j h g =
          let e = key_plain rows 1 j in
          rw (row_inner rows 2 PRD j (omega arith) (λ x. omega arith), row_inner rows 0 UIT j (omega arith) (λ x. omega arith))

      free_here : (j : ℕ) → own ≤ j → j < r → is_row rows 2 MSD j ≡ false
      free_here j a b =
          elim (dec_lt j i) [
            | yes m ↦ w.free j a m
            | no m ↦
                let g = p.inner j (omega arith) b in
                let e = key_plain rows 1 j in
                row_inner rows 2 MSD j (omega arith) (λ x. omega arith)
          ]

  -- from one such row on
  pub walked_inner : (r : ℕ) → n ≤ length rows / 3 → 3 ≤ get_or rows (3 * i + 1) 0 → Passes (key_of rows 1 0) 3 (i + 1) r → r ≤ n → Walked rows from n own r
  walked_inner r l g p d =
      let e = key_plain rows 1 i in
      walked_pass r l (passes_on (key_of rows 1 0) 3 i (i + 1) r (passes_one (key_of rows 1 0) 3 i (omega arith)) p) d

-- the two searches of the definition are that one
pub reach_end : (rows : List ℕ) (k n own to : ℕ) → Reaches rows (k + 1) n own to → to ≡ service_end rows n k
reach_end rows k n own to r = r.ends ∙ sym (first_either (is_row rows 0 UIT) (is_service rows) (k + 1) n)

pub reach_within : (rows : List ℕ) (k n own to : ℕ) → k < n → Reaches rows (k + 1) n own to → own ≤ n
reach_within rows k n own to h r =
    let w = first_bounds (ends_service rows) (n - (k + 1)) (k + 1) in
    let a = r.within in
    let b = r.ends in
    omega arith

-- an MSD of the service stands before row `own`
pub reach_removes : (s rows : List ℕ) (from n own to : ℕ) → Reaches rows from n own to → removes s rows from own ≡ removes s rows from to
unfolding removes
reach_removes s rows from n own to r =
    let f = is_row rows 2 MSD in
    let a = r.within in
    elim (dec_lt (first_from (is_row rows 2 MSD) from own) own) [
      | yes h ↦
          rw (first_short (is_row rows 2 MSD) from to own a h, lt-ltb (first_from (is_row rows 2 MSD) from own) own h, lt-ltb (first_from (is_row rows 2 MSD) from own) to (omega arith))
      | no h ↦
          let k : to ≤ first_from (is_row rows 2 MSD) from to = first_none (is_row rows 2 MSD) from to (none_there (omega arith)) in
          rw (le-ltb (first_from (is_row rows 2 MSD) from own) own (omega arith), le-ltb (first_from (is_row rows 2 MSD) from to) to k)
    ]
  where
    none_there : own ≤ first_from (is_row rows 2 MSD) from own → (j : ℕ) → from ≤ j → j < to → is_row rows 2 MSD j ≡ false
    none_there h j b d =
        elim (dec_lt j own) [
          | yes m ↦ first_skips (is_row rows 2 MSD) (own - from) from j b (omega arith)
          | no m ↦ r.free j (omega arith) d
        ]
