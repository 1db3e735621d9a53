-- A mark for each number: a number below 16,384 made of its bytes in a slot. Numbers that are the same have the same mark, so that a number whose
-- mark is not set is that of no service before.
-- Assumes nothing.
use Rattle.std.specs.Prelude.{ℕ, ◌+◌, ◌*◌, ◌%◌, ◌<◌, ◌≡◌, Bool, false, not, eqb, length, get_or, set, replicate}
use Rattle.std.proofs.Common.{sym, subst, ◌∙◌, arith, eqb-true, length-set, get_or-set_same, get_or-set_other}
use Rattle.std.proofs.Math.Path.{refl, ap}
use Rattle.std.proofs.Math.Bool.{true}
use mathlib.Core.List.{List}
use Rattle.std.proofs.Math.Decide.{dec_lt}
use Rattle.std.proofs.lemmas.Bool.{eqb-false}
use Rattle.std.proofs.lemmas.List.{length-replicate}
use Rattle.laws.specs.Choice.{choose, both_parts, false≢true}
use Rattle.answers.specs.Answers.{done, wrong_service}
use Rattle.syntax.specs.Bytes.{plain}
use Rattle.parts.specs.Places.{bytes_of}
use Rattle.values.specs.Values.{same_text}
use Rattle.services.specs.declared.Service.{Service}
use Rattle.services.specs.Rows.{offset_at, row_count}
use Rattle.services.specs.Search.{none_holds}
use Rattle.services.specs.Services.{is_service, service_number, says_number, is_same_service, is_twice, service_at, services_from, is_wrong, tested_of}
use Rattle.services.specs.Walks.{First}
use Rattle.services.specs.Ways.{Next}
use Rattle.slots.specs.Words.{high_of, low_of}
use Rattle.service_entries.specs.Room.{number_bytes}
use Rattle.rooms.specs.Order.{same_told}
use Rattle.stages.specs.Stage.{number_in}

-- the mark of ten bytes, and of the number that stands in them
unfoldable pub ten_mark : List ℕ → ℕ
ten_mark x = (high_of x % 15997 * 65536 + low_of x % 65536) % 15997

abbrev pub mark_of : List ℕ → ℕ
mark_of x = ten_mark (number_bytes x)

unfoldable pub is_marked : List ℕ → ℕ → Bool
is_marked marks k = not (eqb (get_or marks k 0) 0)

-- the marks of the services before row i are set
pub record Marked (marks s rows : List ℕ) (i : ℕ) : Type 0 where
  pub size : length marks ≡ 16384
  pub seen : (j : ℕ) → j < i → is_service rows j ≡ true → is_marked marks (mark_of (plain (bytes_of s (service_number s (offset_at rows j))))) ≡ true

-- ---- marks

pub mark_is : (x : List ℕ) {h l : ℕ} → h ≡ high_of x → l ≡ low_of x → (h % 15997 * 65536 + l % 65536) % 15997 ≡ ten_mark x
unfolding ten_mark
mark_is x a b = rw (a, b)

pub mark_below : (x : List ℕ) → ten_mark x < 16384
unfolding ten_mark
mark_below x = omega arith

marked_there : (marks : List ℕ) (k : ℕ) → k < length marks → is_marked (set marks k 1) k ≡ true
unfolding is_marked
marked_there marks k h = rw (get_or-set_same marks k 1 0 h)

marked_other : (marks : List ℕ) (k j : ℕ) → (k ≡ j → ⊥) → is_marked (set marks k 1) j ≡ is_marked marks j
unfolding is_marked
marked_other marks k j n = rw (get_or-set_other marks k j 1 0 (λ e. n (sym e)))

marked_stays : (marks : List ℕ) (k j : ℕ) → k < length marks → is_marked marks j ≡ true → is_marked (set marks k 1) j ≡ true
marked_stays marks k j h q =
    choose (eqb k j)
    (λ e. subst (λ (x : ℕ). is_marked (set marks k 1) x ≡ true) (eqb-true k j e) (marked_there marks k h))
    (λ e. marked_other marks k j (eqb-false k j e) ∙ q)

-- ---- the marks of services

pub marked_start : (s rows : List ℕ) → Marked (replicate 16384 0) s rows 0
marked_start s rows = record { size = length-replicate {A = ℕ} 16384 0; seen = λ j h q. absurd (omega arith) }

same_parts : (s rows x : List ℕ) (j : ℕ) → is_same_service s rows x j ≡ true → (is_service rows j ≡ true) × (same_text (plain (bytes_of s (service_number s (offset_at rows j)))) (plain x) ≡ true)
unfolding is_same_service says_number
same_parts s rows x j p = both_parts (is_service rows j) (same_text (plain (bytes_of s (service_number s (offset_at rows j)))) (plain x)) p

-- the number of the service of a row
number_of_row : (s rows : List ℕ) (n k : ℕ) (u : Service) → u ≡ service_at s rows n k → number_in s u ≡ plain (bytes_of s (service_number s (offset_at rows k)))
unfolding service_at
number_of_row s rows n k u e = ap (number_in s) e

module _ (marks s rows : List ℕ) (i : ℕ) (w : Marked marks s rows i) where
  -- a number whose mark is not set
  pub marked_new : (x : List ℕ) → is_marked marks (mark_of (plain x)) ≡ false → is_twice s rows x i ≡ false
  unfolding is_twice
  marked_new x q = none_holds (is_same_service s rows x) 0 (row_count rows i) (λ j a b. choose (is_same_service s rows x j) (λ p. absurd (same_not j (omega arith) p)) (λ p. p))
    where
      same_not : (j : ℕ) → j < i → is_same_service s rows x j ≡ true → ⊥
      same_not j h p =
          let t = same_parts s rows x j p in
          let e : plain (bytes_of s (service_number s (offset_at rows j))) ≡ plain x = same_told (plain (bytes_of s (service_number s (offset_at rows j)))) (plain x) t.1 in
          false≢true (sym q ∙ ap (λ (y : List ℕ). is_marked marks (mark_of y)) (sym e) ∙ w.seen j h t.0)

  -- up to the next service
  pub marked_to : (n : ℕ) (v : Service) (rest : List Service) → First s rows n i v rest → Marked marks s rows v.from
  marked_to n v rest f = record { size = w.size; seen = seen_to }
    where
      seen_to : (j : ℕ) → j < v.from → is_service rows j ≡ true → is_marked marks (mark_of (plain (bytes_of s (service_number s (offset_at rows j))))) ≡ true
      seen_to j h q =
          elim (dec_lt j i) [
            | yes a ↦ w.seen j a q
            | no a ↦ absurd (false≢true (sym (f.before j (omega arith) h) ∙ q))
          ]

  -- one service more
  pub marked_on : (n : ℕ) (v : Service) (rest : List Service) → First s rows n i v rest → Marked (set marks (mark_of (number_in s v)) 1) s rows (v.from + 1)
  marked_on n v rest f = record { size = length-set marks (mark_of (number_in s v)) 1 ∙ w.size; seen = seen_there }
    where
      below : mark_of (number_in s v) < length marks
      below =
          let e = w.size in
          let h = mark_below (number_bytes (number_in s v)) in
          omega arith

      seen_there : (j : ℕ) → j < v.from + 1 → is_service rows j ≡ true → is_marked (set marks (mark_of (number_in s v)) 1) (mark_of (plain (bytes_of s (service_number s (offset_at rows j))))) ≡ true
      seen_there j h q =
          elim (dec_lt j v.from) [
            | yes b ↦
                marked_stays marks (mark_of (number_in s v)) (mark_of (plain (bytes_of s (service_number s (offset_at rows j))))) below ((marked_to n v rest f).seen j b q)
            | no b ↦
                let e : v.from ≡ j = omega arith in
                subst (λ (x : ℕ). is_marked (set marks (mark_of (number_in s v)) 1) (mark_of (plain (bytes_of s (service_number s (offset_at rows x))))) ≡ true) e
                (ap (λ (y : List ℕ). is_marked (set marks (mark_of (number_in s v)) 1) (mark_of y)) (sym (number_of_row s rows n v.from v f.own)) ∙ marked_there marks (mark_of (number_in s v)) below)
          ]

  -- and past the rows of that service, in which none begins
  pub marked_past : (m : ℕ) (v : Service) → Next s rows m i v → Marked (set marks (mark_of (number_in s v)) 1) s rows v.to
  marked_past m v n = record { size = on.size; seen = seen_past }
    where
      first : First s rows (row_count rows m) i v (services_from s rows (row_count rows m) (v.from + 1))
      first = record { others = refl; further = n.further; inside = omega (arith, n.some, n.inside); own = n.own; before = n.before }

      on : Marked (set marks (mark_of (number_in s v)) 1) s rows (v.from + 1)
      on = marked_on (row_count rows m) v (services_from s rows (row_count rows m) (v.from + 1)) first

      seen_past : (j : ℕ) → j < v.to → is_service rows j ≡ true → is_marked (set marks (mark_of (number_in s v)) 1) (mark_of (plain (bytes_of s (service_number s (offset_at rows j))))) ≡ true
      seen_past j h q =
          elim (dec_lt j (v.from + 1)) [
            | yes a ↦ on.seen j a q
            | no a ↦ absurd (false≢true (sym (n.behind j (omega arith) h) ∙ q))
          ]

-- ---- 11 and 12 by the marks

module _ (marks s rows : List ℕ) (v : Service) (w : Marked marks s rows v.from) (x : Bool) (q : x ≡ is_marked marks (mark_of (number_in s v))) (n : x ≡ false) (y : Bool) (e : y ≡ is_wrong s rows v) where
  pub new_wrong : y ≡ true → wrong_service v.prd ≡ tested_of s rows v
  unfolding tested_of
  new_wrong p = rw (← e, p)

  pub new_good : y ≡ false → done tt ≡ tested_of s rows v
  unfolding tested_of
  new_good p = rw (← e, p, marked_new marks s rows v.from w (bytes_of s v.number) (sym q ∙ n))
