-- A place that the placing rule reaches, as what is still to come at each open level. Assumes nothing.
use Rattle.std.specs.Prelude.{false, ◌≡◌, refl, ◌∷◌}
use Rattle.std.proofs.Math.Path.{ap, ap₂, subst⁻¹}
use Prim.Native.Nat.{ℕ, zero, suc, ◌≤◌, ◌<◌}
use Rattle.std.proofs.Common.{arith}
use Rattle.placing.specs.declared.Place.{Place}
use Rattle.placing.specs.Table.{is_group, Table, rows, level_of, outer, later}
use Rattle.placing.specs.Place.{count_at, reached_of}
use Rattle.placing.proofs.Message.{kept_above, kept_here}
use Rattle.one_way.proofs.Reach.{Reach, outside, level}

-- the open levels down to a row's own
unfoldable pub levels : ℕ → Table → Place → ℕ → Reach
levels zero t p row = level (row ∷ later t 0 row) (count_at p 0) outside
levels (suc l) t p row = level (row ∷ later t (suc l) row) (count_at p (suc l)) (levels l t p (outer t row))

unfoldable pub reach_of : Table → Place → Reach
reach_of t p = levels (level_of t p.row) t p p.row

-- those above it
abbrev pub above : ℕ → Table → Place → ℕ → Reach
above zero t p out = outside
above (suc l) t p out = levels l t p out

-- each open level came at least once
abbrev pub Open : ℕ → Table → Place → ℕ → Type 0
Open zero t p row = 1 ≤ count_at p 0
Open (suc l) t p row = (1 ≤ count_at p (suc l)) × Open l t p (outer t row)

abbrev pub OpenAbove : ℕ → Table → Place → ℕ → Type 0
OpenAbove zero t p out = Unit {0}
OpenAbove (suc l) t p out = Open l t p out

-- a place reached: a segment's row of the table, with its levels open
pub record Inside (t : Table) (p : Place) : Type 0 where
  pub in_table : p.row < rows t
  pub segment : is_group t p.row ≡ false
  pub opened : Open (level_of t p.row) t p p.row

-- The counts after a step

module _ (t : Table) (p : Place) (l n row last : ℕ) (m : l ≤ 4) where
  abbrev after : Place
  after = reached_of p l n row last

  levels_kept : (k out : ℕ) → k < l → levels k t after out ≡ levels k t p out
  unfolding levels
  levels_kept zero out h = ap (λ c. level (out ∷ later t 0 out) c outside) (kept_above p l n row last m 0 h)
  levels_kept (suc k) out h =
      ap₂ (level (out ∷ later t (suc k) out)) (kept_above p l n row last m (suc k) h) (levels_kept k (outer t out) (omega arith))

  open_kept : (k out : ℕ) → k < l → Open k t p out → Open k t after out
  open_kept zero out h o = subst⁻¹ (λ c. 1 ≤ c) (kept_above p l n row last m 0 h) o
  open_kept (suc k) out h o = (subst⁻¹ (λ c. 1 ≤ c) (kept_above p l n row last m (suc k) h) o.0, open_kept k (outer t out) (omega arith) o.1)

-- a row entered for the n-th time
pub levels_here : (t : Table) (p : Place) (l n row last r : ℕ) → l ≤ 4 → levels l t (reached_of p l n row last) r ≡ level (r ∷ later t l r) n (above l t p (outer t r))
unfolding levels
levels_here t p zero n row last r m = refl
levels_here t p (suc l) n row last r m =
    ap₂ (level (r ∷ later t (suc l) r)) (kept_here p (suc l) n row last m) (levels_kept t p (suc l) n row last m l (outer t r) (omega arith))

pub open_here : (t : Table) (p : Place) (l n row last r : ℕ) → l ≤ 4 → 1 ≤ n → OpenAbove l t p (outer t r) → Open l t (reached_of p l n row last) r
open_here t p zero n row last r m k o = k
open_here t p (suc l) n row last r m k o =
    (subst⁻¹ (λ c. 1 ≤ c) (kept_here p (suc l) n row last m) k, open_kept t p (suc l) n row last m l (outer t r) (omega arith) o)
