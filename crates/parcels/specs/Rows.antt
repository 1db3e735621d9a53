-- Rows whose offsets count from the front of a part of an interchange, as they are given out.
-- Assumes nothing.
use Rattle.std.specs.Prelude.{◌≡◌, refl, true, ℕ, zero, suc, ◌+◌, ◌-◌, ◌*◌, ◌/◌, ◌%◌, ◌≤◌, ◌<◌, ltb, length, take, drop}
use Rattle.std.proofs.Common.{sym, ◌∙◌, length-take-le, ltb-true}
use Rattle.std.proofs.Math.Path.{ap}
use mathlib.Core.List.{List, [], ◌∷◌, map}
use native.Mathlib.Omega.{arith}
use Rattle.std.proofs.Math.ListN.{get_or, set, length-set, length-drop}
use Rattle.laws.specs.Choice.{all, both_parts}
use Rattle.laws.specs.Lists.{drop_here}
use Rattle.laws.specs.Put.{put_at, put_step, put_none, put_no_room}
use Rattle.steps.specs.declared.state.Row.{Row}
use Rattle.interchange.specs.Reader.{numbers}
use Rattle.arrival.specs.Passing.{raise}

-- an offset counted from a base, as a number of 32 bits
abbrev pub raised_number : ℕ → ℕ → ℕ
raised_number base n = (n + base) % 4294967296

-- three numbers a row, the offset first
unfoldable pub raised : ℕ → List ℕ → List ℕ
raised base [] = []
raised base (a ∷ []) = []
raised base (a ∷ b ∷ []) = []
raised base (a ∷ b ∷ c ∷ l) = raised_number base a ∷ b ∷ c ∷ raised base l

pub raised_numbers : (base : ℕ) (rs : List Row) → all (λ (r : Row). ltb r.offset 4096) rs ≡ true → base < 65536 → raised base (numbers rs) ≡ numbers (map (raise base) rs)
unfolding raised numbers
raised_numbers base [] q h = refl
raised_numbers base (r ∷ rs) q h =
    let w = both_parts (ltb r.offset 4096) (all (λ (r : Row). ltb r.offset 4096) rs) q in
    let l = ltb-true r.offset 4096 w.0 in
    let e : (r.offset + base) % 4294967296 ≡ base + r.offset = omega arith in
    rw (e, raised_numbers base rs w.1 h)

pub length_raised : (base k : ℕ) (l : List ℕ) → length l ≡ 3 * k → length (raised base l) ≡ 3 * k
unfolding raised
length_raised base zero [] e = refl
length_raised base zero (a ∷ l) e = absurd (omega arith)
length_raised base (suc k) [] e = absurd (omega arith)
length_raised base (suc k) (a ∷ []) e = absurd (omega arith)
length_raised base (suc k) (a ∷ b ∷ []) e = absurd (omega arith)
length_raised base (suc k) (a ∷ b ∷ c ∷ l) e = let h = length_raised base k l (omega arith) in omega arith

-- a copy in place: what is copied, then what is still to be
module _ (from : List ℕ) (n at base : ℕ) where
  -- what is left from an index on
  abbrev pub left_from : ℕ → List ℕ
  left_from i = raised base (take (n - i) (drop i from))

  pub raise_start : (to : List ℕ) → put_at to (at + 0) (left_from 0) ≡ put_at to at (raised base (take n from))
  raise_start to =
      let a : at + 0 ≡ at = omega arith in
      let z : n - 0 ≡ n = omega arith in
      rw (a, z)

  -- where there is no room nothing is put
  pub raise_none : (to : List ℕ) → n ≤ length from → n % 3 ≡ 0 → length to < at + n → to ≡ put_at to at (raised base (take n from))
  raise_none to g m h =
      let z : n ≡ 3 * (n / 3) = omega arith in
      let l = length_raised base (n / 3) (take n from) (length-take-le n from g ∙ z) in
      sym (put_no_room to at (raised base (take n from)) (omega arith))

  three : (i : ℕ) → i < n → n ≤ length from → (n - i) % 3 ≡ 0
      → take (n - i) (drop i from) ≡ get_or from i 0 ∷ get_or from (i + 1) 0 ∷ get_or from (i + 2) 0 ∷ take (n - (i + 3)) (drop (i + 3) from)
  three i h g m =
      let e : n - i ≡ suc (suc (suc (n - (i + 3)))) = omega arith in
      let a : i + 1 + 1 ≡ i + 2 = omega arith in
      let b : i + 2 + 1 ≡ i + 3 = omega arith in
      let d = drop_here from i (omega arith) ∙ ap (λ (x : List ℕ). get_or from i 0 ∷ x) (drop_here from (i + 1) (omega arith) ∙ ap (λ (x : ℕ). get_or from (i + 1) 0 ∷ drop x from) a) in
      let t = d ∙ ap (λ (x : List ℕ). get_or from i 0 ∷ get_or from (i + 1) 0 ∷ x) (drop_here from (i + 2) (omega arith) ∙ ap (λ (x : ℕ). get_or from (i + 2) 0 ∷ drop x from) b) in
      ap (λ (x : ℕ). take x (drop i from)) e ∙ ap (take (suc (suc (suc (n - (i + 3)))))) t

  pub raise_step : (to : List ℕ) (i : ℕ) → i < n → n ≤ length from → (n - i) % 3 ≡ 0 → at + n ≤ length to
      → put_at (set (set (set to (at + i) (raised_number base (get_or from i 0))) (at + i + 1) (get_or from (i + 1) 0)) (at + i + 2) (get_or from (i + 2) 0)) (at + (i + 3)) (left_from (i + 3))
      ≡ put_at to (at + i) (left_from i)
  unfolding raised
  raise_step to i h g m k =
      let a = raised_number base (get_or from i 0) in
      let b = get_or from (i + 1) 0 in
      let c = get_or from (i + 2) 0 in
      let rest = left_from (i + 3) in
      let d = length-drop (i + 3) from in
      let z : n - (i + 3) ≡ 3 * ((n - (i + 3)) / 3) = omega arith in
      let l = length_raised base ((n - (i + 3)) / 3) (take (n - (i + 3)) (drop (i + 3) from)) (length-take-le (n - (i + 3)) (drop (i + 3) from) (omega arith) ∙ z) in
      let l₁ = set to (at + i) a in
      let l₂ = set l₁ (at + i + 1) b in
      let s₁ = length-set to (at + i) a in
      let s₂ = length-set l₁ (at + i + 1) b in
      let e₃ : at + (i + 3) ≡ at + i + 2 + 1 = omega arith in
      let e₂ : at + i + 2 ≡ at + i + 1 + 1 = omega arith in
      ap (λ (x : ℕ). put_at (set l₂ (at + i + 2) c) x rest) e₃
      ∙ put_step l₂ (at + i + 2) c rest (omega arith)
      ∙ ap (λ (x : ℕ). put_at l₂ x (c ∷ rest)) e₂
      ∙ put_step l₁ (at + i + 1) b (c ∷ rest) (omega arith)
      ∙ put_step to (at + i) a (b ∷ c ∷ rest) (omega arith)
      ∙ ap (λ (x : List ℕ). put_at to (at + i) (raised base x)) (sym (three i h g m))

  pub raise_done : (to : List ℕ) (i : ℕ) → n ≤ i → put_at to (at + i) (left_from i) ≡ to
  unfolding raised
  raise_done to i h =
      let e : n - i ≡ 0 = omega arith in
      rw e (put_none to (at + i))
