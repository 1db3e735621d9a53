use borrow.Author.Rules.{rules}
use mathlib.Core.List.{List}
use Prim.Native.Nat.{ℕ, ◌+◌, ◌<◌}
use native.Mathlib.Omega.{arith}
use lib.ListN.{get_or}
use Rattle.interchange.proofs.heads.four_at.Goals.{After-shared_slice_known-1}
use Rattle.interchange.proofs.heads.four_at.Goals as goal

-- the bytes that are read
module _ (k : After-shared_slice_known-1) where
  small : (i : ℕ) → get_or k.args.s.now i 0 < 256
  small i = omega (arith, k.shared_slice_known-1.given i)

pub overflow_mul-result : goal.overflow_mul-result
overflow_mul-result c = omega (arith, small (goal.at.overflow_mul-result c).After-shared_slice_known-1 (c.args.at + 1), c.wide-2.ensures)

pub overflow_add-result : goal.overflow_add-result
overflow_add-result c =
    omega (arith, small (goal.at.overflow_add-result c).After-shared_slice_known-1 c.args.at, small (goal.at.overflow_add-result c).After-shared_slice_known-1 (c.args.at + 1), c.wide-2.ensures, c.wide.ensures)

pub overflow_mul-result-2 : goal.overflow_mul-result-2
overflow_mul-result-2 c = omega (arith, small (goal.at.overflow_mul-result-2 c).After-shared_slice_known-1 (c.args.at + 2), c.wide-3.ensures)

pub overflow_add-result-2 : goal.overflow_add-result-2
overflow_add-result-2 c =
    omega (arith, small (goal.at.overflow_add-result-2 c).After-shared_slice_known-1 c.args.at, small (goal.at.overflow_add-result-2 c).After-shared_slice_known-1 (c.args.at + 1), small (goal.at.overflow_add-result-2 c).After-shared_slice_known-1 (c.args.at + 2), c.wide-3.ensures, c.wide-2.ensures, c.wide.ensures)

pub overflow_mul-result-3 : goal.overflow_mul-result-3
overflow_mul-result-3 c = omega (arith, small (goal.at.overflow_mul-result-3 c).After-shared_slice_known-1 (c.args.at + 3), c.wide-4.ensures)

pub overflow_add-result-3 : goal.overflow_add-result-3
overflow_add-result-3 c =
    omega (arith, small (goal.at.overflow_add-result-3 c).After-shared_slice_known-1 c.args.at, small (goal.at.overflow_add-result-3 c).After-shared_slice_known-1 (c.args.at + 1), small (goal.at.overflow_add-result-3 c).After-shared_slice_known-1 (c.args.at + 2), small (goal.at.overflow_add-result-3 c).After-shared_slice_known-1 (c.args.at + 3), c.wide-4.ensures, c.wide-3.ensures, c.wide-2.ensures, c.wide.ensures)

pub returns : goal.returns
returns c = (
  rw (c.wide.ensures, c.wide-2.ensures, c.wide-3.ensures, c.wide-4.ensures),
  record { first = small (goal.at.returns c).After-shared_slice_known-1 c.args.at; second = small (goal.at.returns c).After-shared_slice_known-1 (c.args.at + 1); third = small (goal.at.returns c).After-shared_slice_known-1 (c.args.at + 2); fourth = small (goal.at.returns c).After-shared_slice_known-1 (c.args.at + 3) },
)
