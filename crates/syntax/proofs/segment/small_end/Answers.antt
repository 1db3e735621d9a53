-- `small_end` meets its contract.
-- Assumes nothing.
use mathlib.Core.Path.{◌≡◌, sym, ◌∙◌}
use Prim.Native.Nat.{ℕ, ◌+◌, ◌≤◌, ◌<◌, min}
use native.Mathlib.Omega.{arith}
use lib.ListN.{length}
use Rattle.syntax.specs.Found.{end_from, end_quote, told_is, told_past, told_some, told_none}
use Rattle.syntax.specs.Whole.{end_past_start}
use Rattle.syntax.specs.Quick.{quick_short, quick_beyond, quick_told}
use Rattle.syntax.proofs.segment.small_end.Goals.{In_ok-end}
use Rattle.syntax.proofs.segment.small_end.Goals as goal

pub long_end-requires : goal.long_end-requires
long_end-requires c =
    let a = c.args in
    (omega arith, c.if-from-s.true, sym (end_quote a.s.now a.from c.if-from-s.true c.if-s-from-eq39.true) ∙ c.requires.1)

pub returns-in_err-end : goal.returns-in_err-end
returns-in_err-end c =
    let a = c.args in
    let s = a.s.now in
    let k = told_past (min (length s) (a.at + 513)) (end_from s a.from) (sym c.near_end.ensures ∙ c.in_err-end.was) in
    let q = c.requires.1 in
    c.from_residual.ensures ∙ told_none (length s) (length s) (omega arith) ∙ quick_told s a.at (length s) (quick_beyond s a.at (omega arith))

-- the end that is found
module _ (f : In_ok-end) where
  is : (end_from f.args.s.now f.args.from ≡ f.in_ok-end.end) × (end_from f.args.s.now f.args.from < min (length f.args.s.now) (f.args.at + 513))
  is = told_is (min (length f.args.s.now) (f.args.at + 513)) (end_from f.args.s.now f.args.from) f.in_ok-end.end (sym f.near_end.ensures ∙ f.in_ok-end.was)

  found : f.in_ok-end.end ≡ end_from f.args.s.now (f.args.at + 4)
  found = sym is.0 ∙ f.requires.1

  past : f.args.at ≤ f.in_ok-end.end
  past =
      let p = end_past_start f.args.s.now (f.args.at + 4) f.requires.0 in
      let e = found in
      omega arith

  within : f.in_ok-end.end < length f.args.s.now
  within = let k = is in omega (arith, k.0, k.1)

pub overflow_sub-end : goal.overflow_sub-end
overflow_sub-end c = past c

pub returns-then-end-at-le34 : goal.returns-then-end-at-le34
returns-then-end-at-le34 c =
    let f = (goal.at.returns-then-end-at-le34 c).In_ok-end in
    let s = c.args.s.now in
    told_some (length s) c.in_ok-end.end (within f) ∙ quick_told s c.args.at c.in_ok-end.end (quick_short s c.args.at c.in_ok-end.end (found f) c.if-end-at-le34.true)

pub long_end-requires-2 : goal.long_end-requires-2
long_end-requires-2 c =
    let f = (goal.at.long_end-requires-2 c).In_ok-end in
    let p = past f in
    (omega arith, within f, found f)
