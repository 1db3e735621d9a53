-- `full_end` meets its contract.
-- Assumes nothing.
use mathlib.Core.Path.{◌≡◌, sym, ap, ◌∙◌}
use Prim.Native.Nat.{◌+◌, ◌<◌}
use native.Mathlib.Omega.{arith}
use lib.ListN.{length, take}
use lib.Seq.{length-take-le}
use Rattle.laws.specs.Choice.{all}
use Rattle.laws.specs.Lists.{drop_take}
use Rattle.period.specs.Period.{zero_or_one}
use Rattle.period.specs.Written.{word_same}
use Rattle.period.proofs.written.full_end.Goals.{Else-count-eq0, Else-g-count, Else-word}
use Rattle.period.proofs.written.full_end.Goals as goal

-- where the marks and the terminator stand
module _ (w : Else-word) where
  within : 31 + w.args.count < length w.args.g.now
  within = let a = w.if-g-count.false in let b = w.if-g-lt32.false in omega arith

  -- the string alone is looked at
  front : 31 + w.args.count ≡ length (take (31 + w.args.count) w.args.g.now)
  front = sym (length-take-le (31 + w.args.count) w.args.g.now (omega (arith, within)))

pub slice_bounds-are_days-end : goal.slice_bounds-are_days-end
slice_bounds-are_days-end c = front (goal.at.slice_bounds-are_days-end c).Else-word

pub returns : goal.returns
returns c =
    let m = word_same c.word.ensures c.word-2.ensures c.if-word.false in
    record {
      some = let n = c.if-count-eq0.false in omega arith;
      few = omega arith;
      inside = within (goal.at.returns c).Else-word;
      colon = m.one;
      second_colon = m.two;
      quote = m.three;
      days = ap (all zero_or_one) (sym (drop_take 31 (31 + c.args.count) c.args.g.now)) ∙ sym c.are_days.ensures ∙ (c.if-not-are_days.false);
    }
