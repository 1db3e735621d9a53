-- A place in two numbers moved on by a hint. Assumes nothing.
use Rattle.std.specs.Prelude.{◌≡◌, refl, Bool, true, false, List, [], ℕ, ◌+◌, ◌*◌, ◌%◌, ◌^◌, ◌<◌, ◌≤◌, ◌⊎◌, T, eqb, leb, get_or, Some}
use Rattle.std.proofs.Common.{sym, ap, ◌∙◌, subst, arith, inl, inr, ⊎_elim, eqb-true, leb-true}
use Rattle.laws.specs.Choice.{pick, both, either, both_left, both_right, holds, choose}
use Rattle.laws.specs.Sweep.{below, at}
use Rattle.placing.specs.declared.Place.{Place}
use Rattle.placing.specs.Table.{Table, rows, tag_at, level_of}
use Rattle.placing.specs.Place.{count_at, reached_of}
use Rattle.placing.specs.Rule.{step_of}
use Rattle.messages.specs.Tags.{UIT}
use Rattle.hints.specs.Kinds.{kinds, no_kind, kind_at, kind_in, row_in, last_in, kept_bits, bound_of, more_of}
use Rattle.hints.specs.Told.{hint_right, right}
use Rattle.hints.specs.Laws.{Stood}
use Rattle.hints.proofs.Laws.{each_right, hint_row, hint_step, hint_level, hint_inside}
use Rattle.hints.specs.Packing.{place_of, kind_past, two, five, sound_kind, sound_parts, moved_packed}

-- the kinds that are one are sound, and none leads past 64 bits
sound_at : ℕ → Bool
sound_at k = both (either (eqb k 0) (either (leb 28 k) (sound_kind (kind_at k)))) (leb (bound_of k + more_of k) 18446744073709551616)

sound_all : T (below sound_at 32)
unfolding sound_at kinds
sound_all = tt

no_kind_lem : kind_at 0 ≡ no_kind
unfolding kinds
no_kind_lem = refl

pub more_fits : (k : ℕ) → k < 32 → bound_of k + more_of k ≤ 18446744073709551616
unfolding sound_at
more_fits k h =
    leb-true (bound_of k + more_of k) 18446744073709551616 (holds _ (both_right (either (eqb k 0) (either (leb 28 k) (sound_kind (kind_at k)))) (leb (bound_of k + more_of k) 18446744073709551616)
    (at sound_at 32 sound_all k h)))

kind_or : (k : ℕ) → k < 32 → (kind_at k ≡ no_kind) ⊎ (sound_kind (kind_at k) ≡ true)
unfolding sound_at
kind_or k h =
    let g = both_left (either (eqb k 0) (either (leb 28 k) (sound_kind (kind_at k)))) (leb (bound_of k + more_of k) 18446744073709551616) (at sound_at 32 sound_all k h) in
    choose (eqb k 0) (λ q. inl (ap kind_at (eqb-true k 0 q) ∙ no_kind_lem))
    (λ q. choose (leb 28 k) (λ r. inl (kind_past k (leb-true 28 k r))) (λ r. inr (holds _ (rw (q, r) at g))))

-- where no count is, none is at any level
same_pick : (b : Bool) (x : ℕ) → pick b x x ≡ x
same_pick true x = refl
same_pick false x = refl

count_none : (row level : ℕ) → count_at (place_of row 0) level ≡ 0
count_none row level = simp same_pick

-- the place reached has come
reached_stood : (p : Place) (row m level deeper : ℕ) → level + deeper < 5 → deeper < 2 → 1 ≤ count_at (reached_of p level (m + 1) row (level + deeper)) (level + deeper)
reached_stood p row m level deeper h l =
    five (λ x. (d : ℕ) → d < 2 → x + d < 5 → 1 ≤ count_at (reached_of p x (m + 1) row (x + d)) (x + d))
    (two (λ d. 0 + d < 5 → 1 ≤ count_at (reached_of p 0 (m + 1) row (0 + d)) (0 + d)) (λ _. omega arith) (λ _. omega arith))
    (two (λ d. 1 + d < 5 → 1 ≤ count_at (reached_of p 1 (m + 1) row (1 + d)) (1 + d)) (λ _. omega arith) (λ _. omega arith))
    (two (λ d. 2 + d < 5 → 1 ≤ count_at (reached_of p 2 (m + 1) row (2 + d)) (2 + d)) (λ _. omega arith) (λ _. omega arith))
    (two (λ d. 3 + d < 5 → 1 ≤ count_at (reached_of p 3 (m + 1) row (3 + d)) (3 + d)) (λ _. omega arith) (λ _. omega arith))
    (two (λ d. 4 + d < 5 → 1 ≤ count_at (reached_of p 4 (m + 1) row (4 + d)) (4 + d)) (λ _. omega arith) (λ q. absurd (omega arith)))
    level (omega arith) deeper l h

-- one step on: the rule's own, to a place that has come; never by UIT
pub record Onward (t : Table) (row n tag to m : ℕ) : Type 0 where
  pub step : step_of t (place_of row n) tag ≡ Some (place_of to m)
  pub stood : Stood t (place_of to m)
  pub inside : tag ≡ UIT → ⊥

module _ (t : Table) (l : List (List ℕ)) (g : T (right t l)) (row n j : ℕ) (s : Stood t (place_of row n)) (b : n < 18446744073709551616) (h : ℕ) (e : h ≡ get_or (get_or l row []) j 0) where
  own : T (hint_right t row h)
  own = rw e (each_right t l g row j)

  pub onward_row : row_in h < rows t
  onward_row = hint_row t (place_of row n) h own

  abbrev kept : ℕ
  kept = n % 2 ^ kept_bits (kind_in h)

  module _ (u : kept < bound_of (h % 32)) where
    -- a hint that is none is not told
    none_told : kind_in h ≡ no_kind → ⊥
    none_told q =
        let v : n % 18446744073709551616 < 1 = rw q at u in
        let z : n ≡ 0 = omega arith in
        let w = subst (λ x. 1 ≤ count_at (place_of row x) (level_of t row)) z s in
        let o = count_none row (level_of t row) in
        omega arith

    sound_told : sound_kind (kind_in h) ≡ true
    sound_told = ⊎_elim (λ q. absurd (none_told q)) (λ q. q) (kind_or (h % 32) (omega arith))

    some : h % 32 ≡ 0 → ⊥
    some q = none_told (ap kind_at q ∙ no_kind_lem)

    pub onward : (tag : ℕ) → tag_at t (row_in h) ≡ tag → Onward t row n tag (row_in h) (kept + more_of (h % 32))
    onward tag k =
        let m = moved_packed (kind_in h) sound_told row (row_in h) n b u in
        let p = sound_parts (kind_in h) sound_told in
        let d = reached_stood (place_of row n) (row_in h) ((kind_in h).again * count_at (place_of row n) (kind_in h).level) (kind_in h).level (kind_in h).deeper p.0 p.1 in
        record {
          step = ap (step_of t (place_of row n)) (sym k) ∙ hint_step t (place_of row n) h own some s m.1 ∙ ap Some (sym m.0);
          stood = subst (λ x. 1 ≤ count_at x (level_of t (row_in h))) (sym m.0) (subst (λ x. 1 ≤ count_at (reached_of (place_of row n) (kind_in h).level ((kind_in h).again * count_at (place_of row n) (kind_in h).level + 1) (row_in h) (last_in h)) x) (sym (hint_level t (place_of row n) h own some)) d);
          inside = λ q. hint_inside t (place_of row n) h own some (k ∙ q);
        }
