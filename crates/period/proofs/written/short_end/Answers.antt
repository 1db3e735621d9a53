-- `short_end` meets its contract.
-- Assumes nothing.
use native.Mathlib.Omega.{arith}
use Rattle.period.specs.Strings.{run_between}
use Rattle.period.specs.Written.{word_same}
use Rattle.period.proofs.written.short_end.Goals as goal

-- where the marks and the terminator stand
pub returns : goal.returns
returns c =
    let m = word_same c.word.ensures c.word-2.ensures c.if-word.false in
    record {
      some = c.if-end-le31.false;
      few = let l = c.if-count-end.false in omega arith;
      inside = c.if-g-end.false;
      colon = m.one;
      second_colon = m.two;
      quote = m.three;
      days = run_between c.args.g.now 31 c.days_end-end.result c.days_end-end.ensures;
    }
